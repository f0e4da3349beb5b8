-- Blocks without an error of the walk.
use Rattle.std.specs.Prelude.{ℕ, List, None}
use Rattle.netlink_attributes.specs.Attribute.{Attribute}
use Rattle.netlink_attributes.specs.Walk.{Walk}

-- walking the bytes yields attributes, and then the end
abbrev pub IsWhole : List ℕ → Type 0
IsWhole bytes = (all : List Attribute) × Walk bytes all None
