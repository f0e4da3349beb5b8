-- The rows of one policy.
use Rattle.std.specs.Prelude.{ℕ, ◌≡◌, ◌==◌, true, List, [], ◌∷◌, if◌then◌else◌}
use Rattle.netlink_shapes.specs.Shapes.{Row, are_sorted}

-- the rows of a policy, in their order
abbrev pub of_policy : ℕ → List Row → List Row
of_policy policy [] = []
of_policy policy (row ∷ rows) =
    if row.0 == policy then row ∷ of_policy policy rows else of_policy policy rows

-- sorted rows among which are all rows that a policy has in a table
pub record IsPart (policy : ℕ) (rows part : List Row) : Type 0 where
  pub same : of_policy policy part ≡ of_policy policy rows
  pub sorted : are_sorted part ≡ true
