use Rattle.std.proofs.Common.{rules}
use Rattle.netlink_replies.proofs.request.Request.belongs.Goals as goal

pub returns : goal.returns
returns c = search rules
