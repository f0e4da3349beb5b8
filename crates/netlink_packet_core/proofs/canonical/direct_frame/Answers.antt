use Rattle.std.proofs.Common.{arith, inl, inr, rules, ◌∙◌}
use Rattle.std.proofs.lemmas.Result.{err_from_is_err_and}
use Rattle.netlink_packet_core.specs.Protocol.{IsOwnType}
use Rattle.netlink_packet_core.proofs.Direct.{directly_written}
use Rattle.netlink_packet_core.proofs.Headers.{begins-part}
use Rattle.netlink_packet_core.proofs.Normalized.{fits_read}
use Rattle.netlink_packet_core.proofs.Written.{Laws}
use Rattle.netlink_packet_core.proofs.canonical.direct_frame.Given
use Rattle.netlink_packet_core.proofs.canonical.direct_frame.Goals as goal

laws : (g : Given.Over) → Laws g.I.PartialEq.eq g.I.NetlinkSerializable.encoding g.I.NetlinkDeserializable.decoding
laws g = let met = g.met.I.NetlinkProtocol in
    record { own_pair = met.own_pair; equal_pairs = met.equal_pairs; value_is_lawful = met.value_is_lawful }

pub returns-in_err-frame-clause-err : goal.returns-in_err-frame-clause-err
returns-in_err-frame-clause-err g c =
    let p = err_from_is_err_and c.from_residual.result c.from_residual.ensures.1 in
    let begins = begins-part c.args.bytes.now c.args.header (λ i. omega (arith, c.type_inv.bytes i)) c.requires.whole c.requires.header in
    let own : IsOwnType c.args.header.message_type = c.is_own_type.ensures.0 (search rules) in
    rw (p.1, p.2) (inl (inr (c.args.header, _, begins, inr (inr (inr (own, c.in_err-frame.ensures.err))))))

pub returns-in_err-with_header-in-Some-clause-err : goal.returns-in_err-with_header-in-Some-clause-err
returns-in_err-with_header-in-Some-clause-err g c =
    let p = err_from_is_err_and c.from_residual-in_err-with_header-in-Some.result c.from_residual-in_err-with_header-in-Some.ensures.1 in
    let begins = begins-part c.args.bytes.now c.args.header (λ i. omega (arith, c.type_inv.bytes i)) c.requires.whole c.requires.header in
    let own : IsOwnType c.args.header.message_type = c.is_own_type.ensures.0 (search rules) in
    let is = rw c.in-Some.is at c.in_ok-frame.ensures.ok in
    let direct = directly_written (laws g) c.args.bytes.now c.args.header _ c.in-Some.frame.items begins own is in
    let why = c.in_err-with_header-in-Some.ensures.err in
    rw (p.1, p.2) (inr (inl (why.0, (direct.message, direct.read, omega (arith, direct.size, why.1)))))

pub returns-in_ok-with_header-in-Some-clause-ok : goal.returns-in_ok-with_header-in-Some-clause-ok
returns-in_ok-with_header-in-Some-clause-ok g c =
    let begins = begins-part c.args.bytes.now c.args.header (λ i. omega (arith, c.type_inv.bytes i)) c.requires.whole c.requires.header in
    let own : IsOwnType c.args.header.message_type = c.is_own_type.ensures.0 (search rules) in
    let is = rw c.in-Some.is at c.in_ok-frame.ensures.ok in
    let direct = directly_written (laws g) c.args.bytes.now c.args.header _ c.in-Some.frame.items begins own is in
    let written = c.in_ok-with_header-in-Some.ensures.ok in (
      direct.message,
      direct.read,
      fits_read g.I.NetlinkSerializable.encoding g.I.NetlinkDeserializable.decoding c.args.bytes.now direct.message direct.read
          (omega (arith, direct.size, written.0)),
      written.1 ∙ direct.text,
    )
