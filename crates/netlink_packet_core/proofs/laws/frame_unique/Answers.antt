use Rattle.netlink_packet_core.proofs.Once.{frame_same, body_in_range}
use Rattle.netlink_packet_core.proofs.Normalized.{fits_alike, written_alike}
use Rattle.netlink_packet_core.proofs.Written.{Laws}
use Rattle.netlink_packet_core.proofs.laws.frame_unique.Given
use Rattle.netlink_packet_core.proofs.laws.frame_unique.Goals as goal

laws : (g : Given.Over) → Laws g.I.PartialEq.eq g.I.NetlinkSerializable.encoding g.I.NetlinkDeserializable.decoding
laws g = let met = g.met.I.NetlinkProtocol in
    record { own_pair = met.own_pair; equal_pairs = met.equal_pairs; value_is_lawful = met.value_is_lawful }

pub returns-clause-unique : goal.returns-clause-unique
returns-clause-unique g c bytes m n f k =
    let decoding = g.I.NetlinkDeserializable.decoding in
    let first = body_in_range decoding m.payload m.header f.0 f.2 in
    let second = body_in_range decoding n.payload n.header k.0 k.2 in
    (c.messages_equal.ensures.message m n first.1 second.1).1 (frame_same decoding bytes m n f k)

pub returns-clause-fits : goal.returns-clause-fits
returns-clause-fits g c bytes m n f k = fits_alike (laws g) bytes n m k f

pub returns-clause-written : goal.returns-clause-written
returns-clause-written g c bytes m n f k = written_alike (laws g) bytes m n f k

pub returns-clause-same : goal.returns-clause-same
returns-clause-same g c bytes m n f k = frame_same g.I.NetlinkDeserializable.decoding bytes m n f k
