use Rattle.std.proofs.Common.{rules}
use Rattle.netlink_packet_core.proofs.buffer.NetlinkBuffer+ref+slice+u8.payload.Goals as goal

pub returns : goal.returns
returns c = search rules
