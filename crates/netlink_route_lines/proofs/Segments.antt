-- Segments, the last one first.
use Rattle.std.proofs.Common.{◌≡◌, ◌<◌, ◌≤◌, ◌-◌, ap, arith, refl, sym, ℕ, zero, suc, List, ◌∷◌}
use Rattle.netlink_words.specs.Parts.{with_part, with_parts}
use Rattle.netlink_words.specs.Text.{ip_words}
use Rattle.netlink_route_lines.specs.Seg6.{segment_at, segments_of}

-- the last of some segments
pub next_segment : (text bytes : List ℕ) (n : ℕ) → 0 < n
    → with_parts text (segments_of bytes n)
    ≡ with_parts (with_part text (ip_words (segment_at bytes (n - 1)))) (segments_of bytes (n - 1))
unfolding segments_of
next_segment text bytes zero some = absurd (omega (arith, some))
next_segment text bytes (suc n) some =
    let same : suc n - 1 ≡ n = omega arith in
    ap (λ (m : ℕ). with_parts (with_part text (ip_words (segment_at bytes m))) (segments_of bytes m)) (sym same)

-- no segment is left
pub no_segment : (text bytes : List ℕ) (n : ℕ) → n ≤ 0 → with_parts text (segments_of bytes n) ≡ text
unfolding segments_of
no_segment text bytes zero none = refl
no_segment text bytes (suc n) none = absurd (omega (arith, none))
