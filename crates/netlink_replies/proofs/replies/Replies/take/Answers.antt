use Rattle.std.proofs.Common.{rules}
use Rattle.netlink_replies.proofs.replies.Replies.take.Goals as goal

pub returns-in-Ok : goal.returns-in-Ok
returns-in-Ok c = search rules
