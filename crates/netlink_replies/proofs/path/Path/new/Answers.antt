use Rattle.netlink_replies.proofs.PathLemmas.{gives_path}
use Rattle.netlink_replies.proofs.path.Path.new.Goals as goal

pub returns-clause-path : goal.returns-clause-path
returns-clause-path c = gives_path (record { block = c.args.block; offset = c.args.offset })
