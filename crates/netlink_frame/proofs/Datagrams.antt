-- The lines that a loop over the frames of a datagram has appended.
use Rattle.std.proofs.Common.{◌≡◌, ℕ, List, [], ◌∷◌, ◌++◌, sym, ap, ◌∙◌, append_assoc, append-nil}
use Rattle.netlink_frame.specs.Lines.{frame_line, frame_lines}

-- one more line
pub frame_lines_push : (done : List (List ℕ)) (frame : List ℕ) → frame_lines (done ++ (frame ∷ [])) ≡ frame_lines done ++ frame_line frame
frame_lines_push [] frame = append-nil (frame_line frame)
frame_lines_push (first ∷ done) frame =
    ap (λ (x : List ℕ). frame_line first ++ x) (frame_lines_push done frame)
    ∙ sym (append_assoc (frame_line first) (frame_lines done) (frame_line frame))
