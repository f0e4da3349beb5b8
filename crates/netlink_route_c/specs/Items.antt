-- A walk over the attributes of a view.
use Rattle.std.specs.Prelude.{◌≡◌, ◌==◌, ◌<◌, ◌+◌, ◌≤◌, ◌⊎◌, ℕ, List, Option, None, Some, drop, false, if◌then◌else◌, length, true}
use Rattle.netlink_family.specs.Shapes.{Scope, by_nest, has_shape, nest_of, resolved, within}
use Rattle.netlink_family.specs.declared.family.Table.{Ghosts}
use Rattle.netlink_family.specs.declared.shape.Shape.{Shape}
use Rattle.netlink_family.specs.declared.shape.Shape.TheVariants.{Chosen, ChosenByNumber}
use Rattle.netlink_packet_core.specs.Attribute.{Attribute}
use Rattle.netlink_packet_core.specs.DecodeError.{DecodeError}
use Rattle.netlink_packet_core.specs.Nla.{attribute_with}
use Rattle.netlink_packet_core.specs.Walk.{IsFault, Starts}
use Rattle.netlink_shapes.specs.Fitting.{AreShaped}
use Rattle.netlink_route_c.specs.Gets.{nest_view}
use Rattle.netlink_route_c.specs.ShapeNumbers.{shape_numbers, shape_with}
use Rattle.netlink_route_c.specs.Views.{IsViewOf, block_of, part_of, shape_of}
use Rattle.netlink_route_c.specs.declared.item.Item.{Item}
use Rattle.netlink_route_c.specs.declared.item.KeptShape.{KeptShape}
use Rattle.netlink_route_c.specs.declared.item.ViewWalk.{ViewWalk}
use Rattle.netlink_route_c.specs.declared.view.Part.{Part}
use Rattle.netlink_route_c.specs.declared.view.View.{View}

-- the rows of the view's message type, and the view's attributes
abbrev pub scope_of : {F : Type 0} → Ghosts F → List ℕ → View → Scope
scope_of table payload view = within (table.rows view.message_type) (block_of payload view)

-- the shape of the row for which a shape is kept
abbrev pub row_of : KeptShape → Option Shape
row_of kept =
    if kept.kept == 1 then Some (Chosen kept.by kept.policy)
    else if kept.kept == 2 then Some (ChosenByNumber kept.by kept.policy)
    else None

-- a shape that is kept is the one that attributes of a block of this policy choose for the row
abbrev pub IsKept : Scope → ℕ → KeptShape → Type 0
IsKept scope policy kept =
    (row : Shape) → row_of kept ≡ Some row → kept.shape ≡ shape_numbers (resolved scope policy row)

abbrev pub AreKept : Scope → ℕ → ViewWalk → Type 0
AreKept scope policy walk = IsKept scope policy walk.last × IsKept scope policy walk.before

-- all zeros
abbrev pub none_kept : KeptShape
none_kept = record { kept = 0; by = 0; policy = 0; shape = shape_with 0 0 0 }

abbrev pub no_walk : ViewWalk
no_walk = record { at = 0; last = none_kept; before = none_kept }

-- a walk over a view of the payload: what it keeps is what attributes chose, and what is left are
-- attributes that have the shapes of the view's policy
pub record IsWalkOf {F : Type 0} (table : Ghosts F) (payload : List ℕ) (view : View) (walk : ViewWalk) : Type 0 where
  pub of : IsViewOf table payload view
  pub kept : AreKept (scope_of table payload view) view.policy walk
  pub rest : AreShaped (scope_of table payload view) view.policy (drop walk.at (block_of payload view))

-- at offset `at` of the view's attributes is an attribute with this kind and with this part of the
-- payload as its value, and the next one is at offset `next`
pub record IsItemAt (payload : List ℕ) (view : View) (at : ℕ) (item : Item) (next : ℕ) : Type 0 where
  pub starts : Starts (drop at (block_of payload view)) (attribute_with item.kind (part_of item.value payload))
      (drop next (block_of payload view))
  pub inside : item.value.offset + item.value.size ≤ length payload
  pub forward : (at < next) × (next ≤ view.attributes.size)

-- a view without attributes
abbrev pub empty_view : ℕ → ℕ → View
empty_view t offset = record {
  message_type = t;
  policy = 0;
  missing = 0;
  header = record { offset = offset; size = 0 };
  attributes = record { offset = offset; size = 0 };
}

-- the nest whose value is this part of the payload, or a view without attributes
abbrev pub item_nest : ℕ → Shape → Part → View
item_nest t shape part =
    by_nest (nest_of shape) (λ policy. nest_view t policy shape part) (empty_view t part.offset)

-- the item has the shape that the table gives its kind, and so has its value
pub record IsTyped {F : Type 0} (table : Ghosts F) (payload : List ℕ) (view : View) (item : Item) : Type 0 where
  pub shape : item.shape ≡ shape_numbers (shape_of table payload view item.kind)
  pub fits : has_shape (shape_of table payload view item.kind) (part_of item.value payload) ≡ true
  pub nest : item.nest ≡ item_nest view.message_type (shape_of table payload view item.kind) item.value

-- no attribute is there, or its value does not have the shape of its kind
abbrev pub IsMisfit : {F : Type 0} → Ghosts F → List ℕ → View → ViewWalk → Type 0
IsMisfit table payload view walk =
    ((e : DecodeError) × IsFault (drop walk.at (block_of payload view)) e)
    ⊎ ((a : Attribute) × (rest : List ℕ) × Starts (drop walk.at (block_of payload view)) a rest
    × (AreKept (scope_of table payload view) view.policy walk → has_shape (shape_of table payload view a.kind) a.value ≡ false))
