-- The attributes of a block that has the shapes of a policy.
use Rattle.std.proofs.Common.{◌≡◌, ℕ, true, List, refl, Option, Some, None}
use Rattle.netlink_attributes.specs.Attribute.{Attribute}
use Rattle.netlink_bytes.specs.Numbers.{IsBytes}
use Rattle.netlink_attributes.specs.Reading.{attributes_in}
use Rattle.netlink_attributes.specs.ReadingLaws.{walk-attributes_in}
use Rattle.netlink_shapes.specs.Shapes.{Scope, all_shaped, are_shaped, nest_levels}
use Rattle.netlink_shapes.specs.Fitting.{AreShaped, fits_at}

by_found : (scope : Scope) (policy : ℕ) (block : List ℕ) (found : Option (List Attribute)) → IsBytes block
    → attributes_in block ≡ found → all_shaped (fits_at scope policy) found ≡ true → AreShaped scope policy block
by_found scope policy block None each reads shaped = absurd (cc)
by_found scope policy block (Some all) each reads shaped =
    record { all = all; walk = walk-attributes_in block all each reads; shaped = shaped }

pub block_attributes : (scope : Scope) (policy : ℕ) (block : List ℕ) → IsBytes block
    → are_shaped nest_levels scope policy block ≡ true → AreShaped scope policy block
block_attributes scope policy block each shaped = by_found scope policy block (attributes_in block) each refl shaped
