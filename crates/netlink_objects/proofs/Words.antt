-- A text that is one part.
use Rattle.std.proofs.Common.{◌≡◌, refl, ℕ, List, [], ◌∷◌}
use Rattle.netlink_words.specs.Parts.{with_part}

pub part_alone : (part : List ℕ) → with_part [] part ≡ part
unfolding with_part
part_alone [] = refl
part_alone (b ∷ part) = refl
