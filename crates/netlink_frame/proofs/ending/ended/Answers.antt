use Rattle.std.proofs.Common.{rules}
use Rattle.netlink_frame.proofs.ending.ended.Goals as goal

pub returns-clause-ends : goal.returns-clause-ends
returns-clause-ends g c = search rules

pub returns-in_default-clause-usage : goal.returns-in_default-clause-usage
returns-in_default-clause-usage g c = search rules
