-- Where the first attribute of each kind below 64 is in a block.
use Rattle.std.specs.Prelude.{ℕ, ◌≡◌, ◌<◌, ◌-◌, ◌*◌, List, drop, slice_index, Some}
use Rattle.netlink_attributes.specs.Views.{HoldsAttribute, attribute_of}
use Rattle.netlink_shapes.specs.Listing.{first_of, listed}

-- the first attribute of a kind is at this offset
abbrev pub IsFirstAt : List ℕ → ℕ → ℕ → Type 0
IsFirstAt block kind at =
    HoldsAttribute (drop at block) × (first_of kind (listed block) ≡ Some (attribute_of (drop at block)).value)

-- a place is 0 if no attribute before the rest has the kind; else it is 1 more than a quarter of the
-- offset of the first that has it
abbrev pub IsPlaceOfKind : List ℕ → List ℕ → ℕ → ℕ → Type 0
IsPlaceOfKind block rest kind place =
    (place ≡ 0 → first_of kind (listed block) ≡ first_of kind (listed rest)) × (0 < place → IsFirstAt block kind (4 * (place - 1)))

-- the places of all kinds
abbrev pub ArePlaces : List ℕ → List ℕ → List ℕ → Type 0
ArePlaces block rest places = (kind : ℕ) → kind < 64 → IsPlaceOfKind block rest kind (slice_index places kind)
