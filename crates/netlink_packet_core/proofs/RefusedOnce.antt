-- Bytes are rejected in only one way.
use Rattle.std.proofs.Common.{ℕ, List, refl, arith, inl, inr, Bool, true}
use Rattle.std.specs.Prelude.{◌≢◌}
use Rattle.netlink_bytes.specs.declared.error.DecodeError.{DecodeError}
use Rattle.netlink_bytes.specs.declared.error.DecodeError.TheVariants.{FrameShort, FrameCut, FrameLength, DoneShort, ErrorShort, Message, OutOfMemory}
use Rattle.netlink_packet_core.specs.Protocol.{Decoding}
use Rattle.netlink_packet_core.specs.Refusal.{IsFrameFault, IsBodyFault, IsDoneFault, IsErrorFault, IsOverrunFault, IsInnerFault, IsRefusal, SameRefusal}
use Rattle.netlink_packet_core.proofs.Headers.{begins-holds}
use Rattle.netlink_packet_core.proofs.Refusals.{no_frame_fault, body_refusal}
use Rattle.netlink_packet_core.specs.declared.header.NetlinkHeader.{NetlinkHeader}

frame_fault_once : (bytes : List ℕ) (e f : DecodeError) → IsFrameFault true bytes e → IsFrameFault true bytes f → SameRefusal e f
frame_fault_once bytes (FrameShort size inside) (FrameShort size' inside') (a, b, c) (a', b', c') = inl cc
frame_fault_once bytes (FrameShort size inside) (FrameCut said' size' inside') (a, b, c) (a', b', c', d', e') = absurd (omega arith)
frame_fault_once bytes (FrameShort size inside) (FrameLength said' inside') (a, b, c) (a', b', c', d') = absurd (omega arith)
frame_fault_once bytes (FrameShort size inside) _ p q = absurd q
frame_fault_once bytes (FrameCut said size inside) (FrameShort size' inside') (a, b, c, d, e) (a', b', c') = absurd (omega arith)
frame_fault_once bytes (FrameCut said size inside) (FrameCut said' size' inside') (a, b, c, d, e) (a', b', c', d', e') = inl cc
frame_fault_once bytes (FrameCut said size inside) (FrameLength said' inside') (a, b, c, d, e) (a', b', c', d') = absurd (omega arith)
frame_fault_once bytes (FrameCut said size inside) _ p q = absurd q
frame_fault_once bytes (FrameLength said inside) (FrameShort size' inside') (a, b, c, d) (a', b', c') = absurd (omega arith)
frame_fault_once bytes (FrameLength said inside) (FrameCut said' size' inside') (a, b, c, d) (a', b', c', d', e') = absurd (omega arith)
frame_fault_once bytes (FrameLength said inside) (FrameLength said' inside') (a, b, c, d) (a', b', c', d') = inl cc
frame_fault_once bytes (FrameLength said inside) _ p q = absurd q
frame_fault_once bytes _ f p q = absurd p

error_fault_once : (payload : List ℕ) (e f : DecodeError) → IsErrorFault payload e → IsErrorFault payload f → e ≢ OutOfMemory
    → f ≢ OutOfMemory → SameRefusal e f
error_fault_once payload OutOfMemory f p q known known' = absurd (known refl)
error_fault_once payload (ErrorShort size inside) OutOfMemory p q known known' = absurd (known' refl)
error_fault_once payload (ErrorShort size inside) (ErrorShort size' inside') (a, b, c) (a', b', c') known known' = inl cc
error_fault_once payload (ErrorShort size inside) _ p q known known' = absurd q
error_fault_once payload _ f p q known known' = absurd p

done_fault_once : (payload : List ℕ) (e f : DecodeError) → IsDoneFault payload e → IsDoneFault payload f → e ≢ OutOfMemory → f ≢ OutOfMemory
    → SameRefusal e f
done_fault_once payload OutOfMemory f p q known known' = absurd (known refl)
done_fault_once payload (DoneShort size inside) OutOfMemory p q known known' = absurd (known' refl)
done_fault_once payload (DoneShort size inside) (DoneShort size' inside') (a, b, c, d) (a', b', c', d') known known' = inl cc
done_fault_once payload (DoneShort size inside) _ p q known known' = absurd q
done_fault_once payload _ f p q known known' = absurd p

overrun_fault_once : (payload : List ℕ) (e f : DecodeError) → IsOverrunFault payload e → e ≢ OutOfMemory → SameRefusal e f
overrun_fault_once payload OutOfMemory f p known = absurd (known refl)
overrun_fault_once payload _ f p known = absurd p

inner_fault_once : {I E : Type 0} (decoding : Decoding I) (wants : E → Bool) (h : NetlinkHeader) (payload : List ℕ) (e f : DecodeError)
    → IsInnerFault decoding wants h payload e → IsInnerFault decoding wants h payload f → e ≢ OutOfMemory → f ≢ OutOfMemory
    → SameRefusal e f
inner_fault_once decoding wants h payload OutOfMemory f p q known known' = absurd (known refl)
inner_fault_once decoding wants h payload (Message a) OutOfMemory p q known known' = absurd (known' refl)
inner_fault_once decoding wants h payload (Message a) (Message b) (none, (r, is)) (none', (s, is')) known known' =
    inr (h.message_type, r, s, is, is')
inner_fault_once decoding wants h payload (Message a) _ p q known known' = absurd q
inner_fault_once decoding wants h payload _ f p q known known' = absurd p

body_fault_once : {I E : Type 0} (decoding : Decoding I) (wants : E → Bool) (h : NetlinkHeader) (payload : List ℕ) (e f : DecodeError)
    → IsBodyFault decoding wants h payload e → IsBodyFault decoding wants h payload f → e ≢ OutOfMemory → f ≢ OutOfMemory → SameRefusal e f
body_fault_once decoding wants h payload e f (inl a) (inl b) known known' = error_fault_once payload e f a.1 b.1 known known'
body_fault_once decoding wants h payload e f (inl a) (inr (inl b)) known known' = absurd (omega (arith, a.0, b.0))
body_fault_once decoding wants h payload e f (inl a) (inr (inr (inl b))) known known' = absurd (omega (arith, a.0, b.0))
body_fault_once decoding wants h payload e f (inl a) (inr (inr (inr b))) known known' = absurd (b.0.1 a.0)
body_fault_once decoding wants h payload e f (inr (inl a)) (inl b) known known' = absurd (omega (arith, a.0, b.0))
body_fault_once decoding wants h payload e f (inr (inl a)) (inr (inl b)) known known' = done_fault_once payload e f a.1 b.1 known known'
body_fault_once decoding wants h payload e f (inr (inl a)) (inr (inr (inl b))) known known' = absurd (omega (arith, a.0, b.0))
body_fault_once decoding wants h payload e f (inr (inl a)) (inr (inr (inr b))) known known' = absurd (b.0.2 a.0)
body_fault_once decoding wants h payload e f (inr (inr (inl a))) q known known' = overrun_fault_once payload e f a.1 known
body_fault_once decoding wants h payload e f (inr (inr (inr a))) (inl b) known known' = absurd (a.0.1 b.0)
body_fault_once decoding wants h payload e f (inr (inr (inr a))) (inr (inl b)) known known' = absurd (a.0.2 b.0)
body_fault_once decoding wants h payload e f (inr (inr (inr a))) (inr (inr (inl b))) known known' = absurd (a.0.3 b.0)
body_fault_once decoding wants h payload e f (inr (inr (inr a))) (inr (inr (inr b))) known known' =
    inner_fault_once decoding wants h payload e f a.1 b.1 known known'

pub refusal_once : {I E : Type 0} (decoding : Decoding I) (wants : E → Bool) (bytes : List ℕ) (e f : DecodeError)
    → IsRefusal decoding wants bytes e → IsRefusal decoding wants bytes f → e ≢ OutOfMemory → f ≢ OutOfMemory → SameRefusal e f
refusal_once decoding wants bytes e f (inl a) (inl b) known known' = frame_fault_once bytes e f a b
refusal_once decoding wants bytes e f (inl a) (inr (h, p, begins, b)) known known' =
    absurd (no_frame_fault true bytes e (begins-holds bytes h p begins) a)
refusal_once decoding wants bytes e f (inr (h, p, begins, a)) q known known' =
    body_fault_once decoding wants h p e f a (body_refusal decoding wants bytes h p f begins q) known known'
