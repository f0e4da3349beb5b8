-- The lines that a loop over a walk has appended.
use Rattle.std.proofs.Common.{◌≡◌, ℕ, List, [], ◌∷◌, ◌++◌, sym, ap, ◌∙◌, append_assoc, append-nil}
use Rattle.netlink_packet_core.specs.Attribute.{Attribute}
use Rattle.netlink_frame.specs.Lines.{nla_line, nla_lines}

-- one more line
pub lines_push : (done : List Attribute) (a : Attribute) → nla_lines (done ++ (a ∷ [])) ≡ nla_lines done ++ nla_line a
lines_push [] a = append-nil (nla_line a)
lines_push (first ∷ done) a =
    ap (λ (x : List ℕ). nla_line first ++ x) (lines_push done a) ∙ sym (append_assoc (nla_line first) (nla_lines done) (nla_line a))
