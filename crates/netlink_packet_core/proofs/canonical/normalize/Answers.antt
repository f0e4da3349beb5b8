use Rattle.std.proofs.Common.{arith, inl, inr, sym, subst, ◌∙◌}
use Rattle.std.proofs.lemmas.Result.{err_from_is_err_and, IfOk-weaker, MatchResult-weaker}
use Rattle.netlink_packet_core.specs.Canonical.{IsCanonicalFrame}
use Rattle.netlink_packet_core.proofs.Written.{Laws}
use Rattle.netlink_packet_core.proofs.Canonicals.{canonical_is_written}
use Rattle.netlink_packet_core.proofs.Normalized.{canonical_fits, fault_canonical, fault_fits, fault_long, fits_alike, long_alike, written_alike, written_again, read_is_canonical}
use Rattle.netlink_packet_core.proofs.canonical.normalize.Given
use Rattle.netlink_packet_core.proofs.canonical.normalize.Goals as goal

laws : (g : Given.Over) → Laws g.I.PartialEq.eq g.I.NetlinkSerializable.encoding g.I.NetlinkDeserializable.decoding
laws g = let met = g.met.I.NetlinkProtocol in
    record { own_pair = met.own_pair; equal_pairs = met.equal_pairs; value_is_lawful = met.value_is_lawful }

pub returns-in_err-header-clause-writes : goal.returns-in_err-header-clause-writes
returns-in_err-header-clause-writes g c m f fits =
    let p = err_from_is_err_and c.from_residual.result c.from_residual.ensures.1 in
    rw (p.1, p.2) (fault_fits (laws g) g.I.NetlinkDeserializable.wants_memory c.args.bytes.now m _ f fits
    (inl (inl c.in_err-header.ensures.refuses)))

pub returns-in_err-header-clause-too_long : goal.returns-in_err-header-clause-too_long
returns-in_err-header-clause-too_long g c m f long =
    let p = err_from_is_err_and c.from_residual.result c.from_residual.ensures.1 in
    rw (p.1, p.2) (fault_long (laws g) g.I.NetlinkDeserializable.wants_memory c.args.bytes.now m _ f long
    (inl (inl c.in_err-header.ensures.refuses)))

pub returns-in_err-frame-clause-writes : goal.returns-in_err-frame-clause-writes
returns-in_err-frame-clause-writes g c m f fits =
    let p = err_from_is_err_and c.from_residual-in_err-frame.result c.from_residual-in_err-frame.ensures.1 in
    rw (p.1, p.2) (fault_fits (laws g) g.I.NetlinkDeserializable.wants_memory c.args.bytes.now m _ f fits
    c.in_err-frame.ensures.err)

pub returns-in_err-frame-clause-too_long : goal.returns-in_err-frame-clause-too_long
returns-in_err-frame-clause-too_long g c m f long =
    let p = err_from_is_err_and c.from_residual-in_err-frame.result c.from_residual-in_err-frame.ensures.1 in
    rw (p.1, p.2) (fault_long (laws g) g.I.NetlinkDeserializable.wants_memory c.args.bytes.now m _ f long
    c.in_err-frame.ensures.err)

pub returns-in_err-frame-clause-fixed : goal.returns-in_err-frame-clause-fixed
returns-in_err-frame-clause-fixed g c canonical =
    let p = err_from_is_err_and c.from_residual-in_err-frame.result c.from_residual-in_err-frame.ensures.1 in
    rw (p.1, p.2) (fault_canonical (laws g) g.I.NetlinkDeserializable.wants_memory c.args.bytes.now _ canonical
    c.in_err-frame.ensures.err)

pub returns-in-Some-clause-writes : goal.returns-in-Some-clause-writes
returns-in-Some-clause-writes g c m f fits =
    let is = rw c.in-Some.is at c.in_ok-frame.ensures.ok in is.3 ∙ written_alike (laws g) c.args.bytes.now is.0 m is.1 f

pub returns-in-Some-clause-too_long : goal.returns-in-Some-clause-too_long
returns-in-Some-clause-too_long g c m f long =
    let is = rw c.in-Some.is at c.in_ok-frame.ensures.ok in
    let is_long = long_alike (laws g) c.args.bytes.now is.0 m is.1 f long in
    absurd (omega (arith, is.2.size, is_long))

pub returns-in-Some-clause-again : goal.returns-in-Some-clause-again
returns-in-Some-clause-again g c n k =
    let is = rw c.in-Some.is at c.in_ok-frame.ensures.ok in
    written_again (laws g) c.args.bytes.now c.in-Some.frame.items is.0 n is.1 is.2 is.3 k

pub returns-in-Some-clause-fixed : goal.returns-in-Some-clause-fixed
returns-in-Some-clause-fixed g c canonical =
    let is = rw c.in-Some.is at c.in_ok-frame.ensures.ok in
    is.3 ∙ canonical_is_written (laws g) c.args.bytes.now is.0 canonical is.1

pub returns-in-Some-clause-only_fixed : goal.returns-in-Some-clause-only_fixed
returns-in-Some-clause-only_fixed g c same =
    let is = rw c.in-Some.is at c.in_ok-frame.ensures.ok in
    subst (IsCanonicalFrame g.I.NetlinkDeserializable.decoding) (sym is.3 ∙ same)
    (read_is_canonical (laws g) c.args.bytes.now is.0 is.1 is.2)

pub returns-in_err-message-clause-writes : goal.returns-in_err-message-clause-writes
returns-in_err-message-clause-writes g c m f fits =
    let p = err_from_is_err_and c.from_residual-in_err-message.result c.from_residual-in_err-message.ensures.1 in
    rw (p.1, p.2) (fault_fits (laws g) g.I.NetlinkDeserializable.wants_memory c.args.bytes.now m _ f fits
    (inl (inr c.in_err-message.ensures.err)))

pub returns-in_err-message-clause-too_long : goal.returns-in_err-message-clause-too_long
returns-in_err-message-clause-too_long g c m f long =
    let p = err_from_is_err_and c.from_residual-in_err-message.result c.from_residual-in_err-message.ensures.1 in
    rw (p.1, p.2) (fault_long (laws g) g.I.NetlinkDeserializable.wants_memory c.args.bytes.now m _ f long
    (inl (inr c.in_err-message.ensures.err)))

pub returns-in_err-message-clause-fixed : goal.returns-in_err-message-clause-fixed
returns-in_err-message-clause-fixed g c canonical =
    let p = err_from_is_err_and c.from_residual-in_err-message.result c.from_residual-in_err-message.ensures.1 in
    rw (p.1, p.2) (fault_canonical (laws g) g.I.NetlinkDeserializable.wants_memory c.args.bytes.now _ canonical
    (inl (inr c.in_err-message.ensures.err)))

pub returns-clause-writes : goal.returns-clause-writes
returns-clause-writes g c m f fits =
    let read = c.in_ok-message.ensures.ok in
    let both = written_alike (laws g) c.args.bytes.now c.in_ok-message.message m read f in
    MatchResult-weaker c.into_frame.result
    (c.into_frame.ensures.fits (fits_alike (laws g) c.args.bytes.now c.in_ok-message.message m read f fits))
    (λ v is. is ∙ both) (λ e is. is)

pub returns-clause-too_long : goal.returns-clause-too_long
returns-clause-too_long g c m f long =
    let is_long = long_alike (laws g) c.args.bytes.now c.in_ok-message.message m c.in_ok-message.ensures.ok f long in
    let p = err_from_is_err_and c.into_frame.result (c.into_frame.ensures.too_long is_long) in rw p.1 (inl p.2)

pub returns-clause-again : goal.returns-clause-again
returns-clause-again g c =
    IfOk-weaker c.into_frame.result _ _
    (λ v frame n k. written_again (laws g) c.args.bytes.now v.items c.in_ok-message.message n c.in_ok-message.ensures.ok frame.0
    frame.1 k)
    c.into_frame.ensures.writes

pub returns-clause-fixed : goal.returns-clause-fixed
returns-clause-fixed g c canonical =
    let read = c.in_ok-message.ensures.ok in
    let same = canonical_is_written (laws g) c.args.bytes.now c.in_ok-message.message canonical read in
    MatchResult-weaker c.into_frame.result
    (c.into_frame.ensures.fits (canonical_fits (laws g) c.args.bytes.now c.in_ok-message.message canonical read))
    (λ v is. is ∙ same) (λ e is. is)

pub returns-clause-only_fixed : goal.returns-clause-only_fixed
returns-clause-only_fixed g c =
    IfOk-weaker c.into_frame.result _ _
    (λ v frame same. subst (IsCanonicalFrame g.I.NetlinkDeserializable.decoding) (sym frame.1 ∙ same)
    (read_is_canonical (laws g) c.args.bytes.now c.in_ok-message.message c.in_ok-message.ensures.ok frame.0))
    c.into_frame.ensures.writes
