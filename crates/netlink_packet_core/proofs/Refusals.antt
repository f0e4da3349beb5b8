-- The frame of a message is rejected only with `OutOfMemory`, and not even with that if nothing is
-- copied.
use Rattle.std.proofs.Common.{◌≡◌, ℕ, List, length, refl, ap, subst, arith, inl, inr, Bool, true, Some, None}
use Rattle.netlink_bytes.specs.declared.error.DecodeError.{DecodeError}
use Rattle.netlink_bytes.specs.declared.error.DecodeError.TheVariants.{FrameShort, FrameCut, FrameLength, DoneShort, ErrorShort, Message, OutOfMemory}
use Rattle.netlink_packet_core.specs.Header.{HoldsFrame, payload_of}
use Rattle.netlink_packet_core.specs.Protocol.{Decoding}
use Rattle.netlink_packet_core.specs.Frame.{Begins, Body, Frame, IsDone, IsError}
use Rattle.netlink_packet_core.specs.Refusal.{IsFrameFault, IsBodyFault, IsDoneFault, IsErrorFault, IsOverrunFault, IsInnerFault, IsRefusal, HasNothingToCopy, AsksNoMemory}
use Rattle.netlink_packet_core.proofs.Numbers.{length-code_and_rest}
use Rattle.netlink_packet_core.proofs.Headers.{begins-holds, header-begins, payload-begins, same_start}
use Rattle.netlink_packet_core.specs.declared.header.NetlinkHeader.{NetlinkHeader}
use Rattle.netlink_packet_core.specs.declared.done.DoneMessage.{DoneMessage}
use Rattle.netlink_packet_core.specs.declared.error.ErrorMessage.{ErrorMessage}
use Rattle.netlink_packet_core.specs.declared.payload.NetlinkPayload.{NetlinkPayload}
use Rattle.netlink_packet_core.specs.declared.payload.NetlinkPayload.TheVariants.{Done, Error, Noop, Overrun, InnerMessage}
use Rattle.netlink_packet_core.specs.declared.message.NetlinkMessage.{NetlinkMessage}

-- a complete frame has no error of a frame
pub no_frame_fault : (within : Bool) (bytes : List ℕ) (e : DecodeError) → HoldsFrame bytes → IsFrameFault within bytes e → ⊥
no_frame_fault within bytes (FrameShort size inside) holds fault = omega (arith, holds.header, fault.0)
no_frame_fault within bytes (FrameCut said size inside) holds fault = omega (arith, holds.most, fault.1)
no_frame_fault within bytes (FrameLength said inside) holds fault = omega (arith, holds.least, fault.1)
no_frame_fault within bytes _ holds fault = fault

error_read : (payload : List ℕ) (m : ErrorMessage) (e : DecodeError) → IsError payload m → IsErrorFault payload e → e ≡ OutOfMemory
error_read payload m (ErrorShort size inside) is fault = absurd (omega (arith, fault.0, length-code_and_rest payload _ _ is))
error_read payload m OutOfMemory is fault = refl
error_read payload m _ is fault = absurd fault

done_read : (payload : List ℕ) (m : DoneMessage) (e : DecodeError) → IsDone payload m → IsDoneFault payload e → e ≡ OutOfMemory
done_read payload m (DoneShort size inside) (inl is) fault = absurd (omega (arith, fault.0, ap length is.0))
done_read payload m (DoneShort size inside) (inr is) fault = absurd (omega (arith, fault.1, length-code_and_rest payload _ _ is))
done_read payload m OutOfMemory is fault = refl
done_read payload m _ is fault = absurd fault

overrun_read : (payload : List ℕ) (e : DecodeError) → IsOverrunFault payload e → e ≡ OutOfMemory
overrun_read payload OutOfMemory fault = refl
overrun_read payload _ fault = absurd fault

inner_read : {I E : Type 0} (decoding : Decoding I) (wants : E → Bool) (h : NetlinkHeader) (payload : List ℕ) (pair : ℕ × List ℕ)
    (e : DecodeError) → decoding.reading h payload ≡ Some pair → IsInnerFault decoding wants h payload e → e ≡ OutOfMemory
inner_read decoding wants h payload pair (Message text) gives fault = let none : decoding.reading h payload ≡ None = fault.0 in cc
inner_read decoding wants h payload pair OutOfMemory gives fault = refl
inner_read decoding wants h payload pair _ gives fault = absurd fault

body_read : {I E : Type 0} (decoding : Decoding I) (wants : E → Bool) (h : NetlinkHeader) (payload : List ℕ) (x : NetlinkPayload I)
    (e : DecodeError) → Body decoding h payload x → IsBodyFault decoding wants h payload e → e ≡ OutOfMemory
body_read decoding wants h payload Noop e is (inl fault) = absurd (omega (arith, is, fault.0))
body_read decoding wants h payload Noop e is (inr (inl fault)) = absurd (omega (arith, is, fault.0))
body_read decoding wants h payload Noop e is (inr (inr (inl fault))) = absurd (omega (arith, is, fault.0))
body_read decoding wants h payload Noop e is (inr (inr (inr fault))) = absurd (fault.0.0 is)
body_read decoding wants h payload (Error m) e is (inl fault) = error_read payload m e is.1 fault.1
body_read decoding wants h payload (Error m) e is (inr (inl fault)) = absurd (omega (arith, is.0, fault.0))
body_read decoding wants h payload (Error m) e is (inr (inr (inl fault))) = absurd (omega (arith, is.0, fault.0))
body_read decoding wants h payload (Error m) e is (inr (inr (inr fault))) = absurd (fault.0.1 is.0)
body_read decoding wants h payload (Done m) e is (inl fault) = absurd (omega (arith, is.0, fault.0))
body_read decoding wants h payload (Done m) e is (inr (inl fault)) = done_read payload m e is.1 fault.1
body_read decoding wants h payload (Done m) e is (inr (inr (inl fault))) = absurd (omega (arith, is.0, fault.0))
body_read decoding wants h payload (Done m) e is (inr (inr (inr fault))) = absurd (fault.0.2 is.0)
body_read decoding wants h payload (Overrun bytes) e is (inl fault) = absurd (omega (arith, is.0, fault.0))
body_read decoding wants h payload (Overrun bytes) e is (inr (inl fault)) = absurd (omega (arith, is.0, fault.0))
body_read decoding wants h payload (Overrun bytes) e is (inr (inr (inl fault))) = overrun_read payload e fault.1
body_read decoding wants h payload (Overrun bytes) e is (inr (inr (inr fault))) = absurd (fault.0.3 is.0)
body_read decoding wants h payload (InnerMessage v) e is (inl fault) = absurd (is.0.1 fault.0)
body_read decoding wants h payload (InnerMessage v) e is (inr (inl fault)) = absurd (is.0.2 fault.0)
body_read decoding wants h payload (InnerMessage v) e is (inr (inr (inl fault))) = absurd (is.0.3 fault.0)
body_read decoding wants h payload (InnerMessage v) e is (inr (inr (inr fault))) = inner_read decoding wants h payload _ e is.2 fault.1

-- the error for bytes that begin with a header and a payload is that of the payload
pub body_refusal : {I E : Type 0} (decoding : Decoding I) (wants : E → Bool) (bytes : List ℕ) (h : NetlinkHeader) (payload : List ℕ)
    (e : DecodeError) → Begins bytes h payload → IsRefusal decoding wants bytes e → IsBodyFault decoding wants h payload e
body_refusal decoding wants bytes h payload e begins (inl fault) =
    absurd (no_frame_fault true bytes e (begins-holds bytes h payload begins) fault)
body_refusal decoding wants bytes h payload e begins (inr (g, p, start, fault)) =
    let same = same_start bytes g h p payload start begins in
    subst (λ (k : NetlinkHeader). IsBodyFault decoding wants k payload e) same.0
    (subst (λ (q : List ℕ). IsBodyFault decoding wants g q e) same.1 fault)

-- the frame of a message is rejected only with `OutOfMemory`
pub frame_refused : {I E : Type 0} (decoding : Decoding I) (wants : E → Bool) (bytes : List ℕ) (m : NetlinkMessage I) (e : DecodeError)
    → Frame decoding bytes m → IsRefusal decoding wants bytes e → e ≡ OutOfMemory
frame_refused decoding wants bytes m e (payload, begins, body) refusal =
    body_read decoding wants m.header payload m.payload e body (body_refusal decoding wants bytes m.header payload e begins refusal)

-- if nothing is copied and the protocol is not called, there is no `OutOfMemory`
nothing_wanted : {I E : Type 0} (decoding : Decoding I) (wants : E → Bool) (h : NetlinkHeader) (payload : List ℕ)
    → HasNothingToCopy h.message_type payload → IsBodyFault decoding wants h payload OutOfMemory → ⊥
nothing_wanted decoding wants h payload (inl a) (inl b) = omega (arith, a, b.0)
nothing_wanted decoding wants h payload (inl a) (inr (inl b)) = omega (arith, a, b.0)
nothing_wanted decoding wants h payload (inl a) (inr (inr (inl b))) = omega (arith, a, b.0)
nothing_wanted decoding wants h payload (inl a) (inr (inr (inr b))) = b.0.0 a
nothing_wanted decoding wants h payload (inr (inl a)) (inl b) = omega (arith, a.1, b.1)
nothing_wanted decoding wants h payload (inr (inl a)) (inr (inl b)) = omega (arith, a.0, b.0)
nothing_wanted decoding wants h payload (inr (inl a)) (inr (inr (inl b))) = omega (arith, a.0, b.0)
nothing_wanted decoding wants h payload (inr (inl a)) (inr (inr (inr b))) = b.0.1 a.0
nothing_wanted decoding wants h payload (inr (inr (inl a))) (inl b) = omega (arith, a.0, b.0)
nothing_wanted decoding wants h payload (inr (inr (inl a))) (inr (inl b)) = omega (arith, a.1, b.1)
nothing_wanted decoding wants h payload (inr (inr (inl a))) (inr (inr (inl b))) = omega (arith, a.0, b.0)
nothing_wanted decoding wants h payload (inr (inr (inl a))) (inr (inr (inr b))) = b.0.2 a.0
nothing_wanted decoding wants h payload (inr (inr (inr a))) (inl b) = omega (arith, a.0, b.0)
nothing_wanted decoding wants h payload (inr (inr (inr a))) (inr (inl b)) = omega (arith, a.0, b.0)
nothing_wanted decoding wants h payload (inr (inr (inr a))) (inr (inr (inl b))) = omega (arith, ap length a.1, b.1)
nothing_wanted decoding wants h payload (inr (inr (inr a))) (inr (inr (inr b))) = b.0.3 a.0

pub no_memory_wanted : {I E : Type 0} (decoding : Decoding I) (wants : E → Bool) (bytes : List ℕ) (e : DecodeError) → AsksNoMemory bytes
    → IsRefusal decoding wants bytes e → e ≡ OutOfMemory → ⊥
no_memory_wanted decoding wants bytes e asks_none (inl fault) memory = subst (IsFrameFault true bytes) memory fault
no_memory_wanted decoding wants bytes e asks_none (inr (h, p, begins, fault)) memory =
    let nothing = asks_none (begins-holds bytes h p begins) in
    let of_header : HasNothingToCopy h.message_type (payload_of bytes) =
    subst (λ (k : NetlinkHeader). HasNothingToCopy k.message_type (payload_of bytes)) (header-begins bytes h p begins) nothing in
    let of_payload : HasNothingToCopy h.message_type p =
    subst (HasNothingToCopy h.message_type) (payload-begins bytes h p begins) of_header in
    nothing_wanted decoding wants h p of_payload (subst (IsBodyFault decoding wants h p) memory fault)
