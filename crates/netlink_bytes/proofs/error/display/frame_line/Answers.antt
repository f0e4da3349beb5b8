use Rattle.std.proofs.Common.{rules}
use Rattle.netlink_bytes.proofs.error.display.frame_line.Goals as goal

pub returns-then-inside : goal.returns-then-inside
returns-then-inside c = search rules
