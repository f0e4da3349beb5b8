-- The first attribute of a kind.
use Rattle.std.specs.Prelude.{ℕ, ◌≡◌, ◌≢◌, Bool, List, All, IsSomeAnd, if◌then◌else◌, slice_get, take}
use Rattle.netlink_attributes.specs.Attribute.{Attribute}
use Rattle.netlink_attributes.specs.Views.{masked}

-- no attribute is of this kind, comparing kinds by `part`
abbrev pub HasNone : (ℕ → ℕ) → List Attribute → ℕ → Type 0
HasNone part all kind = All (λ a. part a.kind ≢ kind) all

-- the attribute with this index is of this kind, and none before it is
abbrev pub IsFirst : (ℕ → ℕ) → List Attribute → ℕ → ℕ → Type 0
IsFirst part all kind index =
    IsSomeAnd (slice_get all index) (λ a. part a.kind ≡ kind) × HasNone part (take index all) kind

-- a kind with its two flag bits
abbrev pub whole_kind : ℕ → ℕ
whole_kind kind = kind

-- a kind with its two flag bits, or without them
abbrev pub kind_by : Bool → ℕ → ℕ
kind_by whole kind = if whole then kind else masked kind
