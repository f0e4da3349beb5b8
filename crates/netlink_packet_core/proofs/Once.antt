-- Bytes are the frame of at most one message.
use Rattle.std.proofs.Common.{◌≡◌, ℕ, ◌+◌, Bool, List, length, Some, inl, inr, arith, sym, ap, refl, ◌∙◌, subst, IsTrue, nat_eq, ◌&&◌}
use Rattle.netlink_bytes.specs.Numbers.{IsSigned}
use Rattle.netlink_packet_core.specs.Payload.{payload_bytes, payload_type, PayloadInRange, InnerInRange}
use Rattle.netlink_packet_core.specs.Protocol.{Encoding, Decoding}
use Rattle.netlink_packet_core.specs.Frame.{Body, Frame, IsDone, SamePayload}
use Rattle.netlink_packet_core.specs.Canonical.{canonical_frame, finalized}
use Rattle.netlink_packet_core.proofs.Numbers.{length-code_and_rest, code_once}
use Rattle.netlink_packet_core.proofs.Headers.{same_header, same_start}
use Rattle.netlink_packet_core.proofs.Written.{Laws, written_from}
use Rattle.netlink_packet_core.specs.declared.header.NetlinkHeader.{NetlinkHeader}
use Rattle.netlink_packet_core.specs.declared.done.DoneMessage.{DoneMessage}
use Rattle.netlink_packet_core.specs.declared.message.NetlinkMessage.{NetlinkMessage}
use Rattle.netlink_packet_core.specs.declared.payload.NetlinkPayload.{NetlinkPayload}
use Rattle.netlink_packet_core.specs.declared.payload.NetlinkPayload.TheVariants.{Done, Error, Noop, Overrun, InnerMessage}

-- two done messages of one payload have the same code and the same bytes
done_same : (a b : DoneMessage) (payload : List ℕ) → IsDone payload a → IsDone payload b
    → (a.code ≡ b.code) × (a.extended_ack.items ≡ b.extended_ack.items)
done_same a b payload (inl p) (inl q) = (p.1 ∙ sym q.1, p.2 ∙ sym q.2)
done_same a b payload (inl p) (inr q) = absurd (omega (arith, ap length p.0, length-code_and_rest payload _ _ q))
done_same a b payload (inr p) (inl q) = absurd (omega (arith, ap length q.0, length-code_and_rest payload _ _ p))
done_same a b payload (inr p) (inr q) = code_once payload _ _ _ _ p q

-- two payloads of one body have the same content
payload_same : {I : Type 0} (decoding : Decoding I) (x y : NetlinkPayload I) (h : NetlinkHeader) (payload : List ℕ)
    → Body decoding h payload x → Body decoding h payload y → SamePayload decoding x y
payload_same decoding (Done a) (Done b) h payload p q = done_same a b payload p.1 q.1
payload_same decoding (Done a) (Error b) h payload p q = omega (arith, p.0, q.0)
payload_same decoding (Done a) Noop h payload p q = omega (arith, p.0, q)
payload_same decoding (Done a) (Overrun b) h payload p q = omega (arith, p.0, q.0)
payload_same decoding (Done a) (InnerMessage b) h payload p q = q.0.2 p.0
payload_same decoding (Error a) (Done b) h payload p q = omega (arith, p.0, q.0)
payload_same decoding (Error a) (Error b) h payload p q = code_once payload _ _ _ _ p.1 q.1
payload_same decoding (Error a) Noop h payload p q = omega (arith, p.0, q)
payload_same decoding (Error a) (Overrun b) h payload p q = omega (arith, p.0, q.0)
payload_same decoding (Error a) (InnerMessage b) h payload p q = q.0.1 p.0
payload_same decoding Noop (Done b) h payload p q = omega (arith, p, q.0)
payload_same decoding Noop (Error b) h payload p q = omega (arith, p, q.0)
payload_same decoding Noop Noop h payload p q = tt
payload_same decoding Noop (Overrun b) h payload p q = omega (arith, p, q.0)
payload_same decoding Noop (InnerMessage b) h payload p q = q.0.0 p
payload_same decoding (Overrun a) (Done b) h payload p q = omega (arith, p.0, q.0)
payload_same decoding (Overrun a) (Error b) h payload p q = omega (arith, p.0, q.0)
payload_same decoding (Overrun a) Noop h payload p q = omega (arith, p.0, q)
payload_same decoding (Overrun a) (Overrun b) h payload p q = p.1 ∙ sym q.1
payload_same decoding (Overrun a) (InnerMessage b) h payload p q = q.0.3 p.0
payload_same decoding (InnerMessage a) (Done b) h payload p q = p.0.2 q.0
payload_same decoding (InnerMessage a) (Error b) h payload p q = p.0.1 q.0
payload_same decoding (InnerMessage a) Noop h payload p q = p.0.0 q
payload_same decoding (InnerMessage a) (Overrun b) h payload p q = p.0.3 q.0
payload_same decoding (InnerMessage a) (InnerMessage b) h payload p q =
    let same : Some (decoding.stands_for a) ≡ Some (decoding.stands_for b) = sym p.2 ∙ q.2 in cc

-- and payloads with the same content have the same type and encoding
pub same_text : {I : Type 0} {eq : I → I → Bool} {encoding : Encoding I} {decoding : Decoding I} → Laws eq encoding decoding
    → (x y : NetlinkPayload I) → SamePayload decoding x y
    → (payload_type encoding x ≡ payload_type encoding y) × (payload_bytes encoding x ≡ payload_bytes encoding y)
same_text laws (Done a) (Done b) same = (refl, cc)
same_text laws (Error a) (Error b) same = (refl, cc)
same_text laws Noop Noop same = (refl, refl)
same_text laws (Overrun a) (Overrun b) same = (refl, same)
same_text {encoding = encoding} laws (InnerMessage a) (InnerMessage b) same =
    let own : (encoding.type_of a, encoding.bytes_of a) ≡ (encoding.type_of b, encoding.bytes_of b) =
    sym (laws.own_pair a) ∙ same ∙ laws.own_pair b in
    (ap (λ (s : ℕ × List ℕ). s.0) own, ap (λ (s : ℕ × List ℕ). s.1) own)
same_text laws _ _ same = absurd same

pub frame_same : {I : Type 0} (decoding : Decoding I) (bytes : List ℕ) (m n : NetlinkMessage I) → Frame decoding bytes m
    → Frame decoding bytes n → (m.header ≡ n.header) × SamePayload decoding m.payload n.payload
frame_same decoding bytes m n (p, begins, body) (q, begins', body') =
    let same = same_start bytes m.header n.header p q begins begins' in
    let moved : Body decoding m.header p n.payload =
    subst (λ (h : NetlinkHeader). Body decoding h p n.payload) (sym same.0)
    (subst (λ (r : List ℕ). Body decoding n.header r n.payload) (sym same.1) body') in
    (same.0, payload_same decoding m.payload n.payload m.header p body moved)

pub record SameMessage {I : Type 0} (encoding : Encoding I) (m n : NetlinkMessage I) : Type 0 where
  pub header : m.header ≡ n.header
  pub kind : payload_type encoding m.payload ≡ payload_type encoding n.payload
  pub text : payload_bytes encoding m.payload ≡ payload_bytes encoding n.payload

-- two messages of one frame have the same header, type and encoding
pub frame_once : {I : Type 0} {eq : I → I → Bool} {encoding : Encoding I} {decoding : Decoding I} → Laws eq encoding decoding
    → (bytes : List ℕ) (m n : NetlinkMessage I) → Frame decoding bytes m → Frame decoding bytes n → SameMessage encoding m n
frame_once {decoding = decoding} laws bytes m n p q =
    let same = frame_same decoding bytes m n p q in
    let both = same_text laws m.payload n.payload same.1 in
    record { header = same.0; kind = both.0; text = both.1 }

-- and the same canonical frame
pub written_same : {I : Type 0} (encoding : Encoding I) (m n : NetlinkMessage I) → SameMessage encoding m n
    → canonical_frame encoding m ≡ canonical_frame encoding n
written_same encoding m n same =
    let h = same.header in
    let header : (finalized encoding m).header ≡ (finalized encoding n).header =
    same_header _ _ (ap (λ (t : List ℕ). 16 + length t) same.text) same.kind (ap (λ (j : NetlinkHeader). j.flags) h)
    (ap (λ (j : NetlinkHeader). j.sequence_number) h) (ap (λ (j : NetlinkHeader). j.port_number) h) in
    written_from encoding m n header same.text

-- numbers that were read are in range
pub body_in_range : {I : Type 0} (decoding : Decoding I) (x : NetlinkPayload I) (h : NetlinkHeader) (payload : List ℕ)
    → Body decoding h payload x → PayloadInRange x × InnerInRange decoding x
body_in_range decoding (Done m) h payload (kind, inl none) = (subst (IsSigned 4) (sym none.1) (omega arith), tt)
body_in_range decoding (Done m) h payload (kind, inr some) = (some.in_range, tt)
body_in_range decoding (Error m) h payload body = (body.1.in_range, tt)
body_in_range decoding Noop h payload body = (tt, tt)
body_in_range decoding (Overrun bytes) h payload body = (tt, tt)
body_in_range decoding (InnerMessage v) h payload body = (tt, body.1)

-- what `==` of two headers and a test of the rest compute to
pub headers_and : (rest : Bool) (h j : NetlinkHeader) → h ≡ j → IsTrue rest
    → IsTrue ((nat_eq h.length j.length &&
    (nat_eq h.message_type j.message_type &&
    (nat_eq h.flags j.flags && (nat_eq h.sequence_number j.sequence_number && nat_eq h.port_number j.port_number)))) && rest)
headers_and rest h j e t = grind arith

pub and_headers : (rest : Bool) (h j : NetlinkHeader)
    → IsTrue ((nat_eq h.length j.length &&
    (nat_eq h.message_type j.message_type &&
    (nat_eq h.flags j.flags && (nat_eq h.sequence_number j.sequence_number && nat_eq h.port_number j.port_number)))) && rest)
    → (h ≡ j) × IsTrue rest
and_headers rest h j t = (same_header h j (grind arith) (grind arith) (grind arith) (grind arith) (grind arith), grind arith)
