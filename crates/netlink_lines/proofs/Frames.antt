-- What a whole frame means by itself.
use Rattle.std.proofs.Common.{◌≡◌, ℕ, List, ap, refl, ◌∙◌, inl, inr, arith, Option, Result}
use Rattle.std.proofs.lemmas.Bool.{eq-eqb}
use Rattle.std.proofs.lemmas.List.{take_all}
use Rattle.std.specs.Prelude.{Bool, false, true, ◌&&◌, if◌then◌else◌}
use denote.Ref.{Bor}
use Rattle.netlink_packet_core.specs.DecodeError.{DecodeError}
use Rattle.netlink_packet_core.specs.DecodeError.TheVariants.{FrameShort, FrameCut, FrameLength}
use Rattle.netlink_packet_core.specs.FrameWalk.{IsWholeFrame, frame_of}
use Rattle.netlink_packet_core.specs.Header.{field}
use Rattle.netlink_packet_core.specs.Refusal.{IsFrameFault}
use Rattle.netlink_replies.specs.Answers.{item_of, waiting}
use Rattle.netlink_replies.specs.Meaning.{meaning, other, shown_item}
use Rattle.netlink_replies.specs.Reads.{TakesFrame}
use Rattle.netlink_replies.specs.declared.replies.Replies.{Replies}
use Rattle.netlink_replies.specs.declared.reply.Reply.{Reply}
use Rattle.netlink_replies.specs.declared.request.Request.{Request}

pub whole_frame_of : (frame : List ℕ) → IsWholeFrame frame → frame_of frame ≡ frame
whole_frame_of frame whole = take_all (field 0 4 frame) frame (omega (arith, whole.size))

no_fault : (frame : List ℕ) (e : DecodeError) → IsWholeFrame frame → IsFrameFault false frame e → ⊥
no_fault frame (FrameShort size within) whole is = omega (arith, whole.least, is.0)
no_fault frame (FrameCut n size within) whole is = omega (arith, whole.size, is.1)
no_fault frame (FrameLength n within) whole is = omega (arith, whole.size, whole.least, is.1)
no_fault frame _ whole is = is

-- a request with the sequence number of the frame, and any port number
abbrev pub asking : ℕ → Request
asking n = record { sequence_number = n; port_number = 0; is_dump = false; wants_ack = false }

-- the frame means to it what it means by itself
own_item : (frame : List ℕ) → item_of (waiting (asking (field 8 4 frame))) frame ≡ meaning frame
own_item frame =
    ap (λ (b : Bool). if b && true then meaning frame else other frame) (eq-eqb (field 8 4 frame) _ refl)

pub taken_meaning : (frame : List ℕ) (item : Option (Result (Reply (Bor (List ℕ))) DecodeError)) (t : Replies)
    → IsWholeFrame frame → TakesFrame (waiting (asking (field 8 4 frame))) frame item t
    → shown_item item ≡ meaning frame
taken_meaning frame item t whole (inl took) =
    took.1 ∙ ap (item_of (waiting (asking (field 8 4 frame)))) (whole_frame_of frame whole) ∙ own_item frame
taken_meaning frame item t whole (inr (error, is, item_is, state)) = absurd (no_fault frame error whole is)
