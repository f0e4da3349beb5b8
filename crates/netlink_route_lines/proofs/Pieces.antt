-- The destination of a route, piece by piece.
use Rattle.std.proofs.Common.{◌≡◌, ◌∙◌, ◌<◌, ◌==◌, ◌||◌, ◌++◌, ap, arith, inl, inr, refl, subst, sym, true, ℕ, List, [], ◌∷◌, length}
use Rattle.std.proofs.lemmas.Bool.{eqb-true, or_cases}
use Rattle.netlink_words.specs.Parts.{prefix_end, prefix_of, prefix_text, with_part}
use Rattle.netlink_words.specs.Pieces.{dotted_some, four_words, part_more, prefix_some, sixteen_some}
use Rattle.netlink_words.specs.Text.{ip_words}
use Rattle.netlink_route_lines.specs.Route.{word_or_default}

target_some : (word rest : List ℕ) → 0 < length word → word_or_default (word ++ rest) ≡ word ++ rest
target_some [] rest some = absurd (omega (arith, some))
target_some (b ∷ word) rest some = refl

-- 4 or 16 bytes have a text
has_words : (bytes : List ℕ) → (length bytes == 4 || length bytes == 16) ≡ true → 0 < length (ip_words bytes)
has_words bytes is = elim (or_cases (length bytes == 4) (length bytes == 16) is) [
  | inl four ↦ subst (λ (w : List ℕ). 0 < length w) (sym (four_words bytes (eqb-true (length bytes) 4 four))) (dotted_some bytes)
  | inr more ↦ sixteen_some bytes (eqb-true (length bytes) 16 more)
]

pub address_target : (text bytes : List ℕ) (size whole : ℕ) → (length bytes == 4 || length bytes == 16) ≡ true
    → with_part text (word_or_default (prefix_text bytes size whole)) ≡ with_part text (ip_words bytes) ++ prefix_end size whole
unfolding prefix_text
address_target text bytes size whole is =
    let word : List ℕ = ip_words bytes in
    let rest : List ℕ = prefix_end size whole in
    let some : 0 < length word = has_words bytes is in
    ap (λ (w : List ℕ). with_part text (word_or_default w)) (prefix_some word size whole some)
    ∙ ap (with_part text) (target_some word rest some)
    ∙ part_more text word rest some
