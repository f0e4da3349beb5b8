-- Labels of MPLS, one after another.
use Rattle.std.proofs.Common.{◌≡◌, ◌∙◌, ◌<◌, ◌≤◌, ◌-◌, ◌%◌, ◌==◌, ap, arith, refl, sym, ℕ, List, [], ◌∷◌, drop, get_or, if◌then◌else◌, length, take, take_all}
use Rattle.netlink_route_lines.specs.Mpls.{label_of, with_label, with_labels}

-- the label at the start of bytes
abbrev pub first_label : List ℕ → ℕ
first_label bytes = label_of (get_or bytes 0 0) (get_or bytes 1 0) (get_or bytes 2 0)

-- fewer than four bytes have none
pub no_label : (text bytes : List ℕ) → length bytes < 4 → with_labels text bytes ≡ text
unfolding with_labels
no_label text [] short = refl
no_label text (a ∷ []) short = refl
no_label text (a ∷ b ∷ []) short = refl
no_label text (a ∷ b ∷ c ∷ []) short = refl
no_label text (a ∷ b ∷ c ∷ d ∷ rest) short = absurd (omega (arith, short))

-- the bottom of the stack
pub last_label : (text bytes : List ℕ) → 4 ≤ length bytes → get_or bytes 2 0 % 2 ≡ 1
    → with_labels text bytes ≡ with_label text (first_label bytes)
unfolding with_labels
last_label text [] long odd = absurd (omega (arith, long))
last_label text (a ∷ []) long odd = absurd (omega (arith, long))
last_label text (a ∷ b ∷ []) long odd = absurd (omega (arith, long))
last_label text (a ∷ b ∷ c ∷ []) long odd = absurd (omega (arith, long))
last_label text (a ∷ b ∷ c ∷ d ∷ rest) long odd =
    let one : List ℕ = with_label text (label_of a b c) in
    ap (λ (k : ℕ). if k == 1 then one else with_labels one rest) odd

-- a label above others
pub next_label : (text bytes : List ℕ) → 4 ≤ length bytes → get_or bytes 2 0 % 2 ≡ 0
    → with_labels text bytes ≡ with_labels (with_label text (first_label bytes)) (take (length bytes - 4) (drop 4 bytes))
unfolding with_labels
next_label text [] long even = absurd (omega (arith, long))
next_label text (a ∷ []) long even = absurd (omega (arith, long))
next_label text (a ∷ b ∷ []) long even = absurd (omega (arith, long))
next_label text (a ∷ b ∷ c ∷ []) long even = absurd (omega (arith, long))
next_label text (a ∷ b ∷ c ∷ d ∷ rest) long even =
    let one : List ℕ = with_label text (label_of a b c) in
    let same : take (length (a ∷ b ∷ c ∷ d ∷ rest) - 4) rest ≡ rest =
    take_all (length (a ∷ b ∷ c ∷ d ∷ rest) - 4) rest (omega arith) in
    ap (λ (k : ℕ). if k == 1 then one else with_labels one rest) even ∙ sym (ap (with_labels one) same)
