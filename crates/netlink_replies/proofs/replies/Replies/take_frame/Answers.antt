use Rattle.std.proofs.Common.{rules}
use Rattle.netlink_replies.proofs.replies.Replies.take_frame.Goals as goal

pub returns-clause-state : goal.returns-clause-state
returns-clause-state c = search rules
