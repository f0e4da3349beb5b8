-- The encoding of a message is canonical, and reads back.
use Rattle.std.proofs.Common.{◌≡◌, ◌↔◌, ℕ, ◌+◌, ◌<◌, ◌≤◌, ◌^◌, Bool, true, List, ◌++◌, drop, length, Some, inr, arith, sym, ap, refl, ◌∙◌, subst, append_assoc, IsTrue}
use Rattle.netlink_bytes.specs.Numbers.{unsigned}
use Rattle.netlink_packet_core.specs.Header.{header_bytes, header_of, field, HeaderInRange}
use Rattle.netlink_packet_core.specs.Payload.{payload_bytes, payload_type, raw_code, PayloadInRange, InnerInRange}
use Rattle.netlink_packet_core.specs.Protocol.{Encoding, Decoding, IsOwnType, IsLawful}
use Rattle.netlink_packet_core.specs.Frame.{Body, Frame}
use Rattle.netlink_packet_core.specs.Canonical.{Fits, finalized, canonical_frame, IsCanonicalFrame}
use Rattle.netlink_packet_core.specs.Sizes.{length-code, length-header_and}
use Rattle.netlink_packet_core.proofs.Headers.{header_of-header_bytes, drop-header_bytes}
use Rattle.netlink_packet_core.specs.declared.header.NetlinkHeader.{NetlinkHeader}
use Rattle.netlink_packet_core.specs.declared.message.NetlinkMessage.{NetlinkMessage}
use Rattle.netlink_packet_core.specs.declared.payload.NetlinkPayload.{NetlinkPayload}
use Rattle.netlink_packet_core.specs.declared.payload.NetlinkPayload.TheVariants.{Done, Error, Noop, Overrun, InnerMessage}

-- the laws of a protocol, over its members
pub record Laws {I : Type 0} (eq : I → I → Bool) (encoding : Encoding I) (decoding : Decoding I) : Type 0 where
  pub own_pair : (v : I) → decoding.stands_for v ≡ (encoding.type_of v, encoding.bytes_of v)
  pub equal_pairs : (v w : I) → IsTrue (decoding.in_range v) → IsTrue (decoding.in_range w)
      → (eq v w ≡ true) ↔ (decoding.stands_for v ≡ decoding.stands_for w)
  pub value_is_lawful : (v : I) → IsTrue (decoding.in_range v) → IsLawful decoding (decoding.stands_for v)

-- a value's own type and encoding are lawful
own_is_lawful : {I : Type 0} {eq : I → I → Bool} {encoding : Encoding I} {decoding : Decoding I} → Laws eq encoding decoding → (v : I)
    → IsTrue (decoding.in_range v) → IsLawful decoding (encoding.type_of v, encoding.bytes_of v)
own_is_lawful {decoding = decoding} laws v in_range = subst (IsLawful decoding) (laws.own_pair v) (laws.value_is_lawful v in_range)

-- an encoded payload reads as the payload, under a header with its type and size
body_of : {I : Type 0} {eq : I → I → Bool} {encoding : Encoding I} {decoding : Decoding I} → Laws eq encoding decoding
    → (x : NetlinkPayload I) → PayloadInRange x → InnerInRange decoding x → (h : NetlinkHeader) → h.message_type ≡ payload_type encoding x
    → h.length ≡ 16 + length (payload_bytes encoding x) → Body decoding h (payload_bytes encoding x) x
body_of laws (Done m) r i h kind size = (kind, inr (record { whole = refl; in_range = r }))
body_of laws (Error m) r i h kind size = (kind, record { whole = refl; in_range = r })
body_of laws Noop r i h kind size = kind
body_of laws (Overrun bytes) r i h kind size = (kind, refl)
body_of laws (InnerMessage v) r i h kind size =
    let own = own_is_lawful laws v i in
    (subst IsOwnType (sym kind) own.own_type, i, own.again h kind size ∙ ap Some (sym (laws.own_pair v)))

type_fits : {I : Type 0} {eq : I → I → Bool} {encoding : Encoding I} {decoding : Decoding I} → Laws eq encoding decoding
    → (x : NetlinkPayload I) → InnerInRange decoding x → payload_type encoding x < 2 ^ 16
type_fits laws (Done m) i = omega arith
type_fits laws (Error m) i = omega arith
type_fits laws Noop i = omega arith
type_fits laws (Overrun bytes) i = omega arith
type_fits laws (InnerMessage v) i = (own_is_lawful laws v i).width

-- the header of a finalized message is in range
finalized_in_range : {I : Type 0} {eq : I → I → Bool} {encoding : Encoding I} {decoding : Decoding I} → Laws eq encoding decoding
    → (m : NetlinkMessage I) → Fits encoding m → InnerInRange decoding m.payload → HeaderInRange (finalized encoding m).header
finalized_in_range laws m fits i = record {
  length = fits.size;
  message_type = type_fits laws m.payload i;
  flags = fits.header.flags;
  sequence_number = fits.header.sequence_number;
  port_number = fits.header.port_number;
}

-- an encoding reads back, whatever follows
pub reads_before : {I : Type 0} {eq : I → I → Bool} {encoding : Encoding I} {decoding : Decoding I} → Laws eq encoding decoding
    → (m : NetlinkMessage I) → Fits encoding m → InnerInRange decoding m.payload → (more : List ℕ)
    → Frame decoding (canonical_frame encoding m ++ more) (finalized encoding m)
reads_before {encoding = encoding} laws m fits i more =
    let h = (finalized encoding m).header in (
      payload_bytes encoding m.payload,
      record {
        rest = more;
        whole = append_assoc (header_bytes h) (payload_bytes encoding m.payload) more;
        size = refl;
        in_range = finalized_in_range laws m fits i;
      },
      body_of laws m.payload fits.payload i h refl refl,
    )

-- what a payload's type implies about the size of its encoding
sizes : {I : Type 0} {eq : I → I → Bool} {encoding : Encoding I} {decoding : Decoding I} → Laws eq encoding decoding
    → (x : NetlinkPayload I) → InnerInRange decoding x
    → (payload_type encoding x ≡ 1 → length (payload_bytes encoding x) ≡ 0)
    × (payload_type encoding x ≡ 2 → 4 ≤ length (payload_bytes encoding x))
    × (payload_type encoding x ≡ 3 → 4 ≤ length (payload_bytes encoding x))
sizes laws (Done m) i = let size = length-code (unsigned 4 m.code) m.extended_ack.items in
    (λ e. absurd (omega arith), λ e. omega arith, λ e. omega arith)
sizes laws (Error m) i = let size = length-code (unsigned 4 (raw_code m.code)) m.header.items in
    (λ e. absurd (omega arith), λ e. omega arith, λ e. absurd (omega arith))
sizes laws Noop i = (λ e. refl, λ e. absurd (omega arith), λ e. absurd (omega arith))
sizes laws (Overrun bytes) i = (λ e. absurd (omega arith), λ e. absurd (omega arith), λ e. absurd (omega arith))
sizes laws (InnerMessage v) i =
    let own = (own_is_lawful laws v i).own_type in (λ e. absurd (own.0 e), λ e. absurd (own.1 e), λ e. absurd (own.2 e))

-- a payload of the protocol's own type reads as itself
own_reads : {I : Type 0} {eq : I → I → Bool} {encoding : Encoding I} {decoding : Decoding I} → Laws eq encoding decoding
    → (x : NetlinkPayload I) → InnerInRange decoding x → (h : NetlinkHeader) → h.message_type ≡ payload_type encoding x
    → h.length ≡ 16 + length (payload_bytes encoding x) → IsOwnType h.message_type
    → decoding.reading h (payload_bytes encoding x) ≡ Some (payload_type encoding x, payload_bytes encoding x)
own_reads laws (Done m) i h kind size own = absurd (own.2 kind)
own_reads laws (Error m) i h kind size own = absurd (own.1 kind)
own_reads laws Noop i h kind size own = absurd (own.0 kind)
own_reads laws (Overrun bytes) i h kind size own = absurd (own.3 kind)
own_reads laws (InnerMessage v) i h kind size own = (own_is_lawful laws v i).again h kind size

-- what the grammar requires of a header and a payload
pub record IsCanonicalBody {I : Type 0} (decoding : Decoding I) (h : NetlinkHeader) (payload : List ℕ) : Type 0 where
  pub noop : h.message_type ≡ 1 → length payload ≡ 0
  pub error : h.message_type ≡ 2 → 4 ≤ length payload
  pub done : h.message_type ≡ 3 → 4 ≤ length payload
  pub own : IsOwnType h.message_type → decoding.reading h payload ≡ Some (h.message_type, payload)

-- a header and a payload of its length that satisfy the grammar are a canonical frame
canonical_from : {I : Type 0} (decoding : Decoding I) (h : NetlinkHeader) (payload : List ℕ) → HeaderInRange h
    → h.length ≡ 16 + length payload → IsCanonicalBody decoding h payload → IsCanonicalFrame decoding (header_bytes h ++ payload)
canonical_from decoding h payload in_range says body =
    let bytes : List ℕ = header_bytes h ++ payload in
    let head : header_of bytes ≡ h = header_of-header_bytes h payload in_range in
    let size : length bytes ≡ 16 + length payload = length-header_and h payload in
    let whole : field 0 4 bytes ≡ 16 + length payload = ap (λ (j : NetlinkHeader). j.length) head ∙ says in
    let kind : field 4 2 bytes ≡ h.message_type = ap (λ (j : NetlinkHeader). j.message_type) head in
    let rest : drop 16 bytes ≡ payload = drop-header_bytes h payload in
    record {
      header = omega arith;
      whole = whole ∙ sym size;
      noop = λ e. size ∙ ap (λ (n : ℕ). 16 + n) (body.noop (sym kind ∙ e));
      error = λ e. let four = body.error (sym kind ∙ e) in omega arith;
      done = λ e. let four = body.done (sym kind ∙ e) in omega arith;
      own =
          subst (λ (j : NetlinkHeader). IsOwnType j.message_type
          → decoding.reading j (drop 16 bytes) ≡ Some (j.message_type, drop 16 bytes)) (sym head)
          (subst (λ (q : List ℕ). IsOwnType h.message_type → decoding.reading h q ≡ Some (h.message_type, q)) (sym rest) body.own);
    }

-- an encoding is canonical
pub written_is_canonical : {I : Type 0} {eq : I → I → Bool} {encoding : Encoding I} {decoding : Decoding I} → Laws eq encoding decoding
    → (m : NetlinkMessage I) → Fits encoding m → InnerInRange decoding m.payload → IsCanonicalFrame decoding (canonical_frame encoding m)
written_is_canonical {encoding = encoding} {decoding = decoding} laws m fits i =
    let h : NetlinkHeader = (finalized encoding m).header in
    let of_type = sizes laws m.payload i in
    canonical_from decoding h (payload_bytes encoding m.payload) (finalized_in_range laws m fits i) refl
    (record { noop = of_type.0; error = of_type.1; done = of_type.2; own = own_reads laws m.payload i h refl refl })

-- and so are a lawful type and encoding, under any header that matches them
pub lawful_is_canonical : {I : Type 0} (decoding : Decoding I) (pair : ℕ × List ℕ) → IsLawful decoding pair → (h : NetlinkHeader)
    → HeaderInRange h → h.message_type ≡ pair.0 → h.length ≡ 16 + length pair.1 → IsCanonicalFrame decoding (header_bytes h ++ pair.1)
lawful_is_canonical decoding pair lawful h in_range kind size =
    canonical_from decoding h pair.1 in_range size
    (record {
      noop = λ e. absurd (lawful.own_type.0 (sym kind ∙ e));
      error = λ e. absurd (lawful.own_type.1 (sym kind ∙ e));
      done = λ e. absurd (lawful.own_type.2 (sym kind ∙ e));
      own = λ _. lawful.again h kind size ∙ ap (λ (t : ℕ). Some (t, pair.1)) (sym kind);
    })

-- messages with the same finalized header and the same encoded payload have the same encoding
pub written_from : {I : Type 0} (encoding : Encoding I) (m n : NetlinkMessage I)
    → (finalized encoding m).header ≡ (finalized encoding n).header → payload_bytes encoding m.payload ≡ payload_bytes encoding n.payload
    → canonical_frame encoding m ≡ canonical_frame encoding n
written_from encoding m n h t =
    ap (λ (j : NetlinkHeader). header_bytes j ++ payload_bytes encoding m.payload) h
    ∙ ap (λ (text : List ℕ). header_bytes (finalized encoding n).header ++ text) t
