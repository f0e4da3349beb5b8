-- A list of words with commas between them at the end of a text.
use Rattle.std.proofs.Common.{◌≡◌, ◌∙◌, ◌<◌, ◌≤◌, ◌+◌, ◌++◌, ap, arith, refl, sym, ℕ, List, [], ◌∷◌, append_assoc, codes, drop, get_or, length, length-append, take}
use Rattle.std.proofs.Math.Seq.{drop-append_seam, take-append_seam}
use Rattle.std.proofs.lemmas.List.{length-drop, length-take-le, take-append-drop}
use Rattle.std.proofs.lemmas.List.Sums.{fold_more}
use Rattle.std.specs.List.{fold}
use Rattle.netlink_link_lines.specs.Flags.{flag_order, with_flag}
use Rattle.netlink_words.specs.Text.{separated}

-- a text is cut where the list starts
pub cut_front : (front rest : List ℕ) (n : ℕ) → length front ≡ n → take n (front ++ rest) ≡ front
cut_front front rest n size = ap (λ (m : ℕ). take m (front ++ rest)) (sym size) ∙ take-append_seam front rest

pub cut_rest : (front rest : List ℕ) (n : ℕ) → length front ≡ n → drop n (front ++ rest) ≡ rest
cut_rest front rest n size = ap (λ (m : ℕ). drop m (front ++ rest)) (sym size) ∙ drop-append_seam front rest

-- nothing more
pub none_more : (text : List ℕ) (n : ℕ) → text ≡ take n text ++ drop n text
none_more text n = sym (take-append-drop n text)

-- the first word, and a word after others
separated_none : (text word : List ℕ) → length text ≡ 0 → separated (codes ",") text word ≡ text ++ word
separated_none [] word none = refl
separated_none (b ∷ text) word none = absurd (omega (arith, none))

separated_some : (text word : List ℕ) → 0 < length text → separated (codes ",") text word ≡ (text ++ codes ",") ++ word
separated_some [] word some = absurd (omega (arith, some))
separated_some (b ∷ text) word some = sym (append_assoc (b ∷ text) (codes ",") word)

pub first_more : (text word : List ℕ) (n : ℕ) → length text ≤ n
    → text ++ word ≡ take n text ++ separated (codes ",") (drop n text) word
first_more text word n none =
    ap (λ (l : List ℕ). l ++ word) (none_more text n) ∙ append_assoc (take n text) (drop n text) word
    ∙ ap (λ (l : List ℕ). take n text ++ l) (sym (separated_none (drop n text) word (omega (arith, none, length-drop n text))))

pub next_more : (text word : List ℕ) (n : ℕ) → n < length text
    → (text ++ codes ",") ++ word ≡ take n text ++ separated (codes ",") (drop n text) word
next_more text word n some =
    ap (λ (l : List ℕ). (l ++ codes ",") ++ word) (none_more text n)
    ∙ append_assoc (take n text ++ drop n text) (codes ",") word
    ∙ append_assoc (take n text) (drop n text) (codes "," ++ word)
    ∙ ap (λ (l : List ℕ). take n text ++ l) (sym (append_assoc (drop n text) (codes ",") word) ∙ sym (separated_some (drop n text) word (omega (arith, some, length-drop n text))))

-- the list stays within the text as it grows
pub still_room : (text more : List ℕ) (n : ℕ) → n ≤ length text → n ≤ length (take n text ++ more)
still_room text more n room =
    omega (arith, room, length-append (take n text) more, length-take-le n text room)

-- one more flag
pub flag_step : (text now : List ℕ) (n flags i : ℕ) → n ≤ length text → i < length flag_order
    → now ≡ take n text ++ fold (with_flag flags) (drop n text) (take i flag_order)
    → take n now ++ with_flag flags (drop n now) (get_or flag_order i 0)
    ≡ take n text ++ fold (with_flag flags) (drop n text) (take (i + 1) flag_order)
flag_step text now n flags i room more is =
    let front : List ℕ = take n text in
    let done : List ℕ = fold (with_flag flags) (drop n text) (take i flag_order) in
    let bit : ℕ = get_or flag_order i 0 in
    let size : length front ≡ n = length-take-le n text room in
    ap (λ (l : List ℕ). take n l ++ with_flag flags (drop n l) bit) is
    ∙ ap (λ (l : List ℕ). l ++ with_flag flags (drop n (front ++ done)) bit) (cut_front front done n size)
    ∙ ap (λ (l : List ℕ). front ++ with_flag flags l bit) (cut_rest front done n size)
    ∙ ap (λ (l : List ℕ). front ++ l) (sym (fold_more (with_flag flags) (drop n text) flag_order i 0 more))
