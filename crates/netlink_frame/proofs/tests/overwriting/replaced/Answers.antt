use Rattle.std.proofs.Common.{List, [], ◌∷◌, ℕ, refl, inl, arith, None}
use Rattle.netlink_packet_core.specs.Attribute.{Attribute}
use Rattle.netlink_packet_core.specs.Numbers.{bytes_le}
use Rattle.netlink_packet_core.specs.Walk.{Starts, Walk}
use Rattle.netlink_frame.proofs.tests.overwriting.replaced.Goals as goal

abbrev one : Attribute
one = record { kind = 1; value = 170 ∷ [] }

abbrev two : Attribute
two = record { kind = 2; value = 1 ∷ 2 ∷ 3 ∷ 4 ∷ [] }

abbrev second : List ℕ
second = 8 ∷ 0 ∷ 2 ∷ 0 ∷ 1 ∷ 2 ∷ 3 ∷ 4 ∷ []

starts_one : Starts (5 ∷ 0 ∷ 1 ∷ 0 ∷ 170 ∷ 0 ∷ 0 ∷ 0 ∷ second) one second
unfolding bytes_le
starts_one = record { fits = record { kind = omega arith; value = omega arith }; gap = 0 ∷ 0 ∷ 0 ∷ []; whole = refl; gap_size = inl refl }

starts_two : Starts second two []
unfolding bytes_le
starts_two = record { fits = record { kind = omega arith; value = omega arith }; gap = []; whole = refl; gap_size = inl refl }

-- walking the block yields its two attributes
walk : Walk (5 ∷ 0 ∷ 1 ∷ 0 ∷ 170 ∷ 0 ∷ 0 ∷ 0 ∷ second) (one ∷ two ∷ []) None
walk = (second, starts_one, ([], starts_two, refl))

pub returns : goal.returns
returns c = c.overwrite.ensures.written ((c.overwrite.ensures.succeeds (one ∷ two ∷ []) None walk).1 refl) (one ∷ two ∷ []) None walk
