use Rattle.std.proofs.Common.{rules}
use Rattle.netlink_lines.proofs.messages.malformed.Goals as goal

pub returns : goal.returns
returns c = search rules
