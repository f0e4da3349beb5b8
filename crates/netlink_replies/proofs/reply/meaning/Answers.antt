use Rattle.std.proofs.Common.{rules}
use Rattle.netlink_replies.proofs.reply.meaning.Goals as goal

pub returns : goal.returns
returns c = search rules
