-- A canonical frame of a message is the encoding of that message, and none of its proper prefixes
-- is a frame.
use Rattle.std.proofs.Common.{◌≡◌, ℕ, ◌+◌, ◌<◌, ◌≤◌, Bool, List, [], ◌++◌, take, drop, length, Some, inl, inr, true, arith, sym, ap, refl, ◌∙◌, subst}
use Rattle.std.proofs.lemmas.List.{length-take, take-take, nil_from_length, append-nil}
use Rattle.netlink_bytes.specs.Numbers.{number_le}
use Rattle.netlink_bytes.specs.declared.error.DecodeError.TheVariants.{FrameShort, FrameCut}
use Rattle.netlink_packet_core.specs.Header.{header_bytes, header_of, field, HoldsFrame}
use Rattle.netlink_packet_core.specs.Payload.{payload_bytes, payload_type}
use Rattle.netlink_packet_core.specs.Protocol.{Encoding, Decoding, IsOwnType}
use Rattle.netlink_packet_core.specs.Frame.{Begins, Body, Frame}
use Rattle.netlink_packet_core.specs.Canonical.{finalized, canonical_frame, IsCanonicalFrame}
use Rattle.netlink_packet_core.specs.Refusal.{IsFrameFault}
use Rattle.netlink_packet_core.proofs.Headers.{same_header, header-begins, length-begins, after-begins, size-begins}
use Rattle.netlink_packet_core.proofs.Written.{Laws, IsCanonicalBody}
use Rattle.netlink_packet_core.specs.declared.header.NetlinkHeader.{NetlinkHeader}
use Rattle.netlink_packet_core.specs.declared.message.NetlinkMessage.{NetlinkMessage}
use Rattle.netlink_packet_core.specs.declared.payload.NetlinkPayload.{NetlinkPayload}
use Rattle.netlink_packet_core.specs.declared.payload.NetlinkPayload.TheVariants.{Done, Error, Noop, Overrun, InnerMessage}

-- what canonical bytes are, in terms of a header and a payload
pub record CanonicalParts {I : Type 0} (decoding : Decoding I) (bytes : List ℕ) (h : NetlinkHeader) (payload : List ℕ) : Type 0 where
  pub whole : bytes ≡ header_bytes h ++ payload
  pub body : IsCanonicalBody decoding h payload

-- a canonical frame is a header and a payload, with nothing after them
pub canonical_parts : {I : Type 0} (decoding : Decoding I) (bytes : List ℕ) (h : NetlinkHeader) (payload : List ℕ)
    → IsCanonicalFrame decoding bytes → Begins bytes h payload → CanonicalParts decoding bytes h payload
canonical_parts decoding bytes h payload canonical begins =
    let total = size-begins bytes h payload begins in
    let said = length-begins bytes h payload begins in
    let whole = canonical.whole in
    let none : begins.rest ≡ [] = nil_from_length begins.rest (omega arith) in
    let alone : payload ++ begins.rest ≡ payload = ap (λ (r : List ℕ). payload ++ r) none ∙ append-nil payload in
    let head : header_of bytes ≡ h = header-begins bytes h payload begins in
    let kind : field 4 2 bytes ≡ h.message_type = ap (λ (j : NetlinkHeader). j.message_type) head in
    let rest : drop 16 bytes ≡ payload = after-begins bytes h payload begins ∙ alone in
    record {
      whole = begins.whole ∙ ap (λ (q : List ℕ). header_bytes h ++ q) alone;
      body = record {
        noop = λ e. let size = canonical.noop (kind ∙ e) in omega arith;
        error = λ e. let size = canonical.error (kind ∙ e) in omega arith;
        done = λ e. let size = canonical.done (kind ∙ e) in omega arith;
        own = subst (λ (j : NetlinkHeader). IsOwnType j.message_type → decoding.reading j payload ≡ Some (j.message_type, payload)) head
            (subst (λ (q : List ℕ). IsOwnType (field 4 2 bytes) → decoding.reading (header_of bytes) q ≡ Some (field 4 2 bytes, q)) rest
            canonical.own);
      };
    }

-- and it is a complete frame
pub canonical_holds : {I : Type 0} (decoding : Decoding I) (bytes : List ℕ) → IsCanonicalFrame decoding bytes → HoldsFrame bytes
canonical_holds decoding bytes canonical =
    let long = canonical.header in
    let whole = canonical.whole in
    record { header = long; least = omega arith; most = omega arith }

-- what a canonical payload decodes to has its type, and is encoded as it
pub body_back : {I : Type 0} {eq : I → I → Bool} {encoding : Encoding I} {decoding : Decoding I} → Laws eq encoding decoding
    → (x : NetlinkPayload I) (h : NetlinkHeader) (payload : List ℕ) → Body decoding h payload x → IsCanonicalBody decoding h payload
    → (payload_type encoding x ≡ h.message_type) × (payload_bytes encoding x ≡ payload)
body_back laws (Done m) h payload (kind, inl none) canonical = let some = canonical.done kind in absurd (omega (arith, ap length none.0))
body_back laws (Done m) h payload (kind, inr some) canonical = (sym kind, sym some.whole)
body_back laws (Error m) h payload body canonical = (sym body.0, sym body.1.whole)
body_back laws Noop h payload kind canonical = (sym kind, sym (nil_from_length payload (canonical.noop kind)))
body_back laws (Overrun bytes) h payload body canonical = (sym body.0, body.1)
body_back {encoding = encoding} {decoding = decoding} laws (InnerMessage v) h payload body canonical =
    let two : Some (decoding.stands_for v) ≡ Some (h.message_type, payload) = sym body.2 ∙ canonical.own body.0 in
    let pairs : decoding.stands_for v ≡ (h.message_type, payload) = cc in
    let own : (encoding.type_of v, encoding.bytes_of v) ≡ (h.message_type, payload) = sym (laws.own_pair v) ∙ pairs in
    (ap (λ (q : ℕ × List ℕ). q.0) own, ap (λ (q : ℕ × List ℕ). q.1) own)

-- a canonical frame of a message is the encoding of that message
pub canonical_is_written : {I : Type 0} {eq : I → I → Bool} {encoding : Encoding I} {decoding : Decoding I} → Laws eq encoding decoding
    → (bytes : List ℕ) (m : NetlinkMessage I) → IsCanonicalFrame decoding bytes → Frame decoding bytes m
    → canonical_frame encoding m ≡ bytes
canonical_is_written {encoding = encoding} {decoding = decoding} laws bytes m canonical (payload, begins, body) =
    let h : NetlinkHeader = m.header in
    let parts = canonical_parts decoding bytes h payload canonical begins in
    let back = body_back laws m.payload h payload body parts.body in
    let size : 16 + length (payload_bytes encoding m.payload) ≡ h.length = ap (λ (q : List ℕ). 16 + length q) back.1 ∙ sym begins.size in
    let same : (finalized encoding m).header ≡ h = same_header _ h size back.0 refl refl refl in
    ap (λ (j : NetlinkHeader). header_bytes j ++ payload_bytes encoding m.payload) same
    ∙ (ap (λ (q : List ℕ). header_bytes h ++ q) back.1 ∙ sym parts.whole)

-- the first k bytes have size k, and if k is at least 4 they have the same length field
cut_size : (bytes : List ℕ) (k : ℕ) → k ≤ length bytes → length (take k bytes) ≡ k
cut_size bytes k within = omega (arith, length-take k bytes)

cut_field : (bytes : List ℕ) (k : ℕ) → 4 ≤ k → field 0 4 (take k bytes) ≡ field 0 4 bytes
cut_field bytes k long = ap number_le (take-take 4 k bytes (omega arith))

-- a proper prefix of bytes whose length field is their size holds no frame
pub cut_holds_none : (bytes : List ℕ) (k : ℕ) → field 0 4 bytes ≡ length bytes → k < length bytes → HoldsFrame (take k bytes) → ⊥
cut_holds_none bytes k whole proper holds =
    let size = cut_size bytes k (omega arith) in
    let header = holds.header in
    let most = holds.most in
    let said = cut_field bytes k (omega arith) in
    omega arith

-- and its error is that of truncated bytes
pub cut_short : (bytes : List ℕ) (k : ℕ) → k ≤ length bytes → k < 16 → IsFrameFault true (take k bytes) (FrameShort k true)
cut_short bytes k within few = let size = cut_size bytes k within in (omega arith, sym size, refl)

pub cut_later : (bytes : List ℕ) (k : ℕ) → field 0 4 bytes ≡ length bytes → k < length bytes → 16 ≤ k
    → IsFrameFault true (take k bytes) (FrameCut (length bytes) k true)
cut_later bytes k whole proper many =
    let size = cut_size bytes k (omega arith) in
    let said = cut_field bytes k (omega arith) in
    (omega arith, omega arith, omega arith, sym size, refl)
