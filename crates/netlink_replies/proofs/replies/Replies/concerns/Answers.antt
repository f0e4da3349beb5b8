use Rattle.std.proofs.Common.{rules}
use Rattle.netlink_replies.proofs.replies.Replies.concerns.Goals as goal

pub returns-then-not-self : goal.returns-then-not-self
returns-then-not-self c = search rules

pub returns-else-not-self : goal.returns-else-not-self
returns-else-not-self c = search rules
