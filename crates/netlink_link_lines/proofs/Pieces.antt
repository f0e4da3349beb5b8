-- Parts of the line of a link, piece by piece.
use Rattle.std.proofs.Common.{◌≡◌, ◌<◌, ◌^◌, ◌+◌, ◌++◌, ap, arith, refl, ℕ, Bool, true, false, List, [], ◌∷◌, codes, if◌then◌else◌, length, ◌==◌}
use Rattle.std.proofs.lemmas.Fmt.{decimal_nonempty}
use Rattle.netlink_words.specs.Parts.{keyed, with_part}
use Rattle.netlink_words.specs.Pieces.{keyed_more}
use Rattle.netlink_words.specs.Text.{separated}
use Rattle.netlink_link_lines.specs.LinkAddress.{ip_size, link_address}
use Rattle.netlink_link_lines.specs.LinkParts.{group_text, mode_text}

-- an address of a device that is not there
chosen_same : (holds : Bool) (xs : List ℕ) → (if holds then xs else xs) ≡ xs
chosen_same true xs = refl
chosen_same false xs = refl

pub no_own : (text : List ℕ) (layer : ℕ) (bytes : List ℕ) → length bytes ≡ 0 → with_part text (link_address layer bytes) ≡ text
unfolding with_part link_address
no_own text layer [] none = ap (with_part text) (chosen_same (0 == ip_size layer) [])
no_own text layer (b ∷ bytes) none = absurd (omega (arith, none))

mode_some : (n : ℕ) → n < 2 ^ 32 → 0 < length (mode_text n)
unfolding mode_text
mode_some n fits = grind (arith, decimal_nonempty n (omega (arith, fits)))

pub mode_more : (text key : List ℕ) (n : ℕ) → n < 2 ^ 32
    → with_part text (keyed key (mode_text n)) ≡ (separated (codes " ") text key ++ codes " ") ++ mode_text n
mode_more text key n fits = keyed_more text key (mode_text n) (mode_some n fits)

group_some : (n : ℕ) → n < 2 ^ 32 → 0 < length (group_text n)
unfolding group_text
group_some n fits = grind (arith, decimal_nonempty n (omega (arith, fits)))

pub group_more : (text key : List ℕ) (n : ℕ) → n < 2 ^ 32
    → with_part text (keyed key (group_text n)) ≡ (separated (codes " ") text key ++ codes " ") ++ group_text n
group_more text key n fits = keyed_more text key (group_text n) (group_some n fits)
