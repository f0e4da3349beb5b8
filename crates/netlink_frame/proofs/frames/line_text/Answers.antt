use Rattle.std.proofs.Common.{rules}
use Rattle.netlink_frame.proofs.frames.line_text.Goals as goal

pub returns : goal.returns
returns c = search rules
