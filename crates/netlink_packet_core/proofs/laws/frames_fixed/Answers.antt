use Rattle.std.proofs.Common.{subst}
use Rattle.netlink_packet_core.specs.Canonical.{IsCanonicalFrame}
use Rattle.netlink_packet_core.proofs.Canonicals.{canonical_is_written}
use Rattle.netlink_packet_core.proofs.Normalized.{read_is_canonical}
use Rattle.netlink_packet_core.proofs.Written.{Laws}
use Rattle.netlink_packet_core.proofs.laws.frames_fixed.Given
use Rattle.netlink_packet_core.proofs.laws.frames_fixed.Goals as goal

laws : (g : Given.Over) → Laws g.I.PartialEq.eq g.I.NetlinkSerializable.encoding g.I.NetlinkDeserializable.decoding
laws g = let met = g.met.I.NetlinkProtocol in
    record { own_pair = met.own_pair; equal_pairs = met.equal_pairs; value_is_lawful = met.value_is_lawful }

pub returns-clause-fixed : goal.returns-clause-fixed
returns-clause-fixed g c m frame fits = (
  λ same. subst (IsCanonicalFrame g.I.NetlinkDeserializable.decoding) same (read_is_canonical (laws g) c.args.bytes.now m frame fits),
  λ canonical. canonical_is_written (laws g) c.args.bytes.now m canonical frame,
)

pub returns-clause-canonical : goal.returns-clause-canonical
returns-clause-canonical g c m frame fits = read_is_canonical (laws g) c.args.bytes.now m frame fits
