use Rattle.std.proofs.Common.{rules}
use Rattle.netlink_input.proofs.packet.extent_of.Goals as goal

pub returns : goal.returns
returns c = search rules
