use Rattle.std.proofs.Common.{rules}
use Rattle.netlink_packet_core.proofs.buffer.NetlinkBuffer.port_number.Goals as goal

pub returns : goal.returns
returns g c = search rules
