use Rattle.std.proofs.Common.{arith}
use Rattle.netlink_packet_core.specs.Payload.{payload_bytes}
use Rattle.netlink_packet_core.specs.Sizes.{length-header_and}
use Rattle.netlink_packet_core.proofs.message.NetlinkMessageEmitable.emit.Goals as goal

pub serialize-requires-clause-room : goal.serialize-requires-clause-room
serialize-requires-clause-room g c =
    let size = length-header_and c.args.self.now.header (payload_bytes g.I.NetlinkSerializable.encoding c.args.self.now.payload) in
    omega arith
