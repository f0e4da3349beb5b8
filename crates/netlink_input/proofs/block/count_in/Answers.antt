use Rattle.std.proofs.Common.{rules}
use Rattle.netlink_input.proofs.block.count_in.Goals as goal

pub returns : goal.returns
returns c = search rules
