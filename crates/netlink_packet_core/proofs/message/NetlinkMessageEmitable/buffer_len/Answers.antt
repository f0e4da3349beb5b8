use Rattle.std.proofs.Common.{arith}
use Rattle.netlink_packet_core.specs.Payload.{payload_bytes}
use Rattle.netlink_packet_core.specs.Sizes.{length-header_and}
use Rattle.netlink_packet_core.proofs.message.NetlinkMessageEmitable.buffer_len.Goals as goal

pub buffer_len-requires : goal.buffer_len-requires
buffer_len-requires g c =
    let size = length-header_and c.args.self.now.header (payload_bytes g.I.NetlinkSerializable.encoding c.args.self.now.payload) in
    omega arith

pub returns : goal.returns
returns g c =
    let size = length-header_and c.args.self.now.header (payload_bytes g.I.NetlinkSerializable.encoding c.args.self.now.payload) in
    omega arith
