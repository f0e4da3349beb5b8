-- A frame after a datagram whose size is a multiple of 4.
use Rattle.std.proofs.Common.{◌≡◌, ℕ, ◌%◌, List, [], ◌∷◌, ◌++◌, length, ap, sym, subst, ◌∙◌, arith, None, append_assoc}
use Rattle.std.specs.Prelude.{replicate}
use Rattle.netlink_packet_core.specs.Attribute.{padding}
use Rattle.netlink_packet_core.specs.FrameStartLaws.{length-frame_of, field-frame_of}
use Rattle.netlink_packet_core.specs.FrameWalk.{FrameWalk, IsWholeFrame, frame_of, padded_frame}
use Rattle.netlink_packet_core.specs.FrameWalkLaws.{frame_pushed}
use Rattle.netlink_packet_core.specs.Header.{HoldsFrame}

-- a frame appended, and then the zeros of its padding
pub added : (old front middle new text : List ℕ) (count : ℕ) → front ≡ old → middle ≡ front ++ text → new ≡ middle ++ replicate count 0
    → count ≡ padding (length text) → new ≡ old ++ padded_frame text
added old front middle new text count first second third counted =
    third ∙ ap (λ (x : List ℕ). x ++ replicate count 0) (second ∙ ap (λ (x : List ℕ). x ++ text) first)
    ∙ ap (λ (n : ℕ). (old ++ text) ++ replicate n 0) counted ∙ append_assoc old text (replicate (padding (length text)) 0)

-- a datagram and one more frame
pub frames_push : (old new text bytes : List ℕ) → length old % 4 ≡ 0 → HoldsFrame bytes → text ≡ frame_of bytes
    → new ≡ old ++ padded_frame text
    → (all : List (List ℕ)) → FrameWalk old all None → FrameWalk new (all ++ (frame_of bytes ∷ [])) None
frames_push old new text bytes aligned holds same is all walk =
    let size = length-frame_of bytes holds in
    let least = holds.least in
    let whole : IsWholeFrame (frame_of bytes) = record { size = field-frame_of bytes holds; least = omega arith } in
    subst (λ (b : List ℕ). FrameWalk b (all ++ (frame_of bytes ∷ [])) None) (sym (is ∙ ap (λ (x : List ℕ). old ++ padded_frame x) same))
    (frame_pushed old all (frame_of bytes) aligned whole walk)
