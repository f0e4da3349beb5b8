use Rattle.std.proofs.Common.{rules}
use Rattle.netlink_family.proofs.view.MessageView.new.Goals as goal

pub returns-then-not-has_shapes-clause-error : goal.returns-then-not-has_shapes-clause-error
returns-then-not-has_shapes-clause-error g c = search rules
