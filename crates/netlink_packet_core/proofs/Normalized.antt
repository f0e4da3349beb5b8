-- The result of normalizing bytes that are the frame of a message, and canonical bytes.
use Rattle.std.proofs.Common.{◌≡◌, ℕ, ◌+◌, ◌<◌, ◌^◌, Bool, true, List, length, inl, inr, arith, sym, ap, refl, subst, Some, None}
use Rattle.netlink_bytes.specs.declared.error.DecodeError.{DecodeError}
use Rattle.netlink_bytes.specs.declared.error.DecodeError.TheVariants.{DoneShort, ErrorShort, Message, OutOfMemory}
use Rattle.netlink_packet_core.specs.Payload.{payload_bytes}
use Rattle.netlink_packet_core.specs.Protocol.{Encoding, Decoding}
use Rattle.netlink_packet_core.specs.Frame.{Frame}
use Rattle.netlink_packet_core.specs.Canonical.{Fits, IsTooLong, IsCanonicalFrame, IsNormalizeFault, SaysTooLong, canonical_frame}
use Rattle.netlink_packet_core.specs.Refusal.{IsBodyFault, IsRefusal}
use Rattle.netlink_packet_core.proofs.Refusals.{frame_refused, no_frame_fault}
use Rattle.netlink_packet_core.proofs.Written.{Laws, IsCanonicalBody, written_is_canonical}
use Rattle.netlink_packet_core.proofs.Canonicals.{canonical_parts, canonical_holds, body_back, canonical_is_written}
use Rattle.netlink_packet_core.proofs.Once.{frame_once, written_same, body_in_range}
use Rattle.netlink_packet_core.specs.declared.header.NetlinkHeader.{NetlinkHeader}
use Rattle.netlink_packet_core.specs.declared.message.NetlinkMessage.{NetlinkMessage}

-- a canonical payload is rejected only with `OutOfMemory`
canonical_body_refused : {I E : Type 0} (decoding : Decoding I) (wants : E → Bool) (h : NetlinkHeader) (payload : List ℕ) (e : DecodeError)
    → IsCanonicalBody decoding h payload → IsBodyFault decoding wants h payload e → e ≡ OutOfMemory
canonical_body_refused decoding wants h payload (ErrorShort size inside) is (inl fault) = let long = is.error fault.0 in
    absurd (omega (arith, fault.1.0))
canonical_body_refused decoding wants h payload OutOfMemory is fault = refl
canonical_body_refused decoding wants h payload (DoneShort size inside) is (inr (inl fault)) = let long = is.done fault.0 in
    absurd (omega (arith, fault.1.1))
canonical_body_refused decoding wants h payload (Message text) is (inr (inr (inr fault))) =
    let some : decoding.reading h payload ≡ Some (h.message_type, payload) = is.own fault.0 in
    let none : decoding.reading h payload ≡ None = fault.1.0 in
    cc
canonical_body_refused decoding wants h payload _ is (inl fault) = absurd fault.1
canonical_body_refused decoding wants h payload _ is (inr (inl fault)) = absurd fault.1
canonical_body_refused decoding wants h payload _ is (inr (inr (inl fault))) = absurd fault.1
canonical_body_refused decoding wants h payload _ is (inr (inr (inr fault))) = absurd fault.1

-- and so is a canonical frame
pub canonical_refused : {I E : Type 0} (decoding : Decoding I) (wants : E → Bool) (bytes : List ℕ) (e : DecodeError)
    → IsCanonicalFrame decoding bytes → IsRefusal decoding wants bytes e → e ≡ OutOfMemory
canonical_refused decoding wants bytes e canonical (inl fault) =
    absurd (no_frame_fault true bytes e (canonical_holds decoding bytes canonical) fault)
canonical_refused decoding wants bytes e canonical (inr (h, payload, begins, fault)) =
    canonical_body_refused decoding wants h payload e (canonical_parts decoding bytes h payload canonical begins).body fault

-- a message that was read fits if its length does
pub fits_read : {I : Type 0} (encoding : Encoding I) (decoding : Decoding I) (bytes : List ℕ) (m : NetlinkMessage I) → Frame decoding bytes m
    → 16 + length (payload_bytes encoding m.payload) < 2 ^ 32 → Fits encoding m
fits_read encoding decoding bytes m (payload, begins, body) size =
    record { size = size; header = begins.in_range; payload = (body_in_range decoding m.payload m.header payload body).0 }

-- of two messages of one frame, both fit or neither does
pub fits_alike : {I : Type 0} {eq : I → I → Bool} {encoding : Encoding I} {decoding : Decoding I} → Laws eq encoding decoding
    → (bytes : List ℕ) (m n : NetlinkMessage I) → Frame decoding bytes m → Frame decoding bytes n → Fits encoding n → Fits encoding m
fits_alike {encoding = encoding} {decoding = decoding} laws bytes m n f k fits =
    let same = frame_once laws bytes m n f k in
    let size : length (payload_bytes encoding m.payload) ≡ length (payload_bytes encoding n.payload) = ap length same.text in
    fits_read encoding decoding bytes m f (omega (arith, fits.size))

pub long_alike : {I : Type 0} {eq : I → I → Bool} {encoding : Encoding I} {decoding : Decoding I} → Laws eq encoding decoding
    → (bytes : List ℕ) (m n : NetlinkMessage I) → Frame decoding bytes m → Frame decoding bytes n → IsTooLong encoding n
    → IsTooLong encoding m
long_alike {encoding = encoding} laws bytes m n f k long =
    let same = frame_once laws bytes m n f k in
    let size : length (payload_bytes encoding m.payload) ≡ length (payload_bytes encoding n.payload) = ap length same.text in
    omega (arith, long)

-- and they have the same encoding
pub written_alike : {I : Type 0} {eq : I → I → Bool} {encoding : Encoding I} {decoding : Decoding I} → Laws eq encoding decoding
    → (bytes : List ℕ) (m n : NetlinkMessage I) → Frame decoding bytes m → Frame decoding bytes n
    → canonical_frame encoding m ≡ canonical_frame encoding n
written_alike {encoding = encoding} laws bytes m n f k = written_same encoding m n (frame_once laws bytes m n f k)

-- the message of a canonical frame fits
pub canonical_fits : {I : Type 0} {eq : I → I → Bool} {encoding : Encoding I} {decoding : Decoding I} → Laws eq encoding decoding
    → (bytes : List ℕ) (m : NetlinkMessage I) → IsCanonicalFrame decoding bytes → Frame decoding bytes m → Fits encoding m
canonical_fits {encoding = encoding} {decoding = decoding} laws bytes m canonical (payload, begins, body) =
    let parts = canonical_parts decoding bytes m.header payload canonical begins in
    let text : length (payload_bytes encoding m.payload) ≡ length payload =
    ap length (body_back laws m.payload m.header payload body parts.body).1 in
    fits_read encoding decoding bytes m (payload, begins, body) (omega (arith, begins.size, begins.in_range.length))

-- the encoding of a message that was read is canonical
pub read_is_canonical : {I : Type 0} {eq : I → I → Bool} {encoding : Encoding I} {decoding : Decoding I} → Laws eq encoding decoding
    → (bytes : List ℕ) (m : NetlinkMessage I) → Frame decoding bytes m → Fits encoding m
    → IsCanonicalFrame decoding (canonical_frame encoding m)
read_is_canonical {decoding = decoding} laws bytes m (payload, begins, body) fits =
    written_is_canonical laws m fits (body_in_range decoding m.payload m.header payload body).1

-- and it is the encoding of any message that it is the frame of
pub written_again : {I : Type 0} {eq : I → I → Bool} {encoding : Encoding I} {decoding : Decoding I} → Laws eq encoding decoding
    → (bytes answer : List ℕ) (m n : NetlinkMessage I) → Frame decoding bytes m → Fits encoding m → answer ≡ canonical_frame encoding m
    → Frame decoding answer n → canonical_frame encoding n ≡ answer
written_again {decoding = decoding} laws bytes answer m n f fits is k =
    canonical_is_written laws answer n (subst (IsCanonicalFrame decoding) (sym is) (read_is_canonical laws bytes m f fits)) k

-- the error for the frame of a message that fits
pub fault_fits : {I E : Type 0} {eq : I → I → Bool} {encoding : Encoding I} {decoding : Decoding I} → Laws eq encoding decoding
    → (wants : E → Bool) (bytes : List ℕ) (m : NetlinkMessage I) (e : DecodeError) → Frame decoding bytes m → Fits encoding m
    → IsNormalizeFault encoding decoding wants bytes e → e ≡ OutOfMemory
fault_fits {decoding = decoding} laws wants bytes m e f fits (inl refusal) = frame_refused decoding wants bytes m e f refusal
fault_fits laws wants bytes m e f fits (inr (inl (is, (n, k, long)))) =
    absurd (omega (arith, fits.size, long_alike laws bytes m n f k long))
fault_fits laws wants bytes m e f fits (inr (inr (is, of_message))) = is

-- the error for the frame of a message that is too long
pub fault_long : {I E : Type 0} {eq : I → I → Bool} {encoding : Encoding I} {decoding : Decoding I} → Laws eq encoding decoding
    → (wants : E → Bool) (bytes : List ℕ) (m : NetlinkMessage I) (e : DecodeError) → Frame decoding bytes m → IsTooLong encoding m
    → IsNormalizeFault encoding decoding wants bytes e → SaysTooLong decoding wants bytes e
fault_long {decoding = decoding} laws wants bytes m e f long (inl refusal) =
    inr (frame_refused decoding wants bytes m e f refusal, refusal)
fault_long laws wants bytes m e f long (inr (inl (is, of_message))) = inl is
fault_long laws wants bytes m e f long (inr (inr (is, (n, k, fits)))) =
    let small = fits_alike laws bytes m n f k fits in absurd (omega (arith, small.size, long))

-- the error for canonical bytes
pub fault_canonical : {I E : Type 0} {eq : I → I → Bool} {encoding : Encoding I} {decoding : Decoding I} → Laws eq encoding decoding
    → (wants : E → Bool) (bytes : List ℕ) (e : DecodeError) → IsCanonicalFrame decoding bytes
    → IsNormalizeFault encoding decoding wants bytes e → e ≡ OutOfMemory
fault_canonical {decoding = decoding} laws wants bytes e canonical (inl refusal) = canonical_refused decoding wants bytes e canonical refusal
fault_canonical laws wants bytes e canonical (inr (inl (is, (n, k, long)))) =
    let small = canonical_fits laws bytes n canonical k in absurd (omega (arith, small.size, long))
fault_canonical laws wants bytes e canonical (inr (inr (is, of_message))) = is
