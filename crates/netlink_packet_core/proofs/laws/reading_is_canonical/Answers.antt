use Rattle.netlink_packet_core.proofs.Written.{lawful_is_canonical}
use Rattle.netlink_packet_core.proofs.laws.reading_is_canonical.Goals as goal

pub returns-clause-own_type : goal.returns-clause-own_type
returns-clause-own_type g c h payload pair reads =
    let lawful = g.met.I.NetlinkProtocol.reading_is_lawful h payload pair reads in (lawful.own_type, lawful.width)

pub returns-clause-canonical : goal.returns-clause-canonical
returns-clause-canonical g c h payload pair reads front in_range kind size =
    lawful_is_canonical g.I.NetlinkDeserializable.decoding pair (g.met.I.NetlinkProtocol.reading_is_lawful h payload pair reads) front
    in_range kind size
