-- Attributes that have the shapes of their kinds.
use Rattle.std.specs.Prelude.{ℕ, ◌≡◌, Bool, true, List, None}
use Rattle.std.specs.List.{list_all}
use Rattle.netlink_attributes.specs.Attribute.{Attribute}
use Rattle.netlink_attributes.specs.Walk.{Walk}
use Rattle.netlink_shapes.specs.Shapes.{Scope, fits_in, fits_kind}

abbrev pub fits : Scope → Attribute → Bool
fits scope a = fits_kind scope a.kind a.value

-- the same in any policy
abbrev pub fits_at : Scope → ℕ → Attribute → Bool
fits_at scope policy a = fits_in scope policy a.kind a.value

-- the walk has no error, and every attribute has the shape of its kind in the policy
pub record AreShaped (scope : Scope) (policy : ℕ) (bytes : List ℕ) : Type 0 where
  pub all : List Attribute
  pub walk : Walk bytes all None
  pub shaped : list_all (fits_at scope policy) all ≡ true
