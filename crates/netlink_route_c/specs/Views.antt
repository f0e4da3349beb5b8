-- Views of messages and of nests, as C has them: parts of a payload.
use Rattle.std.specs.Prelude.{◌≡◌, ◌+◌, ◌-◌, ℕ, Bool, true, List, drop, length, nat_le, slice_range, take, Option, None, if◌then◌else◌}
use Rattle.netlink_family.specs.Listing.{first_of, listed}
use Rattle.netlink_family.specs.Shapes.{is_block_shaped, nest_levels, shape_among, within}
use Rattle.netlink_family.specs.declared.family.Table.{Ghosts}
use Rattle.netlink_family.specs.declared.shape.Shape.{Shape}
use Rattle.netlink_route_c.specs.declared.view.Part.{Part}
use Rattle.netlink_route_c.specs.declared.view.View.{View}

-- the bytes of a part, and whether it is inside bytes of this size
abbrev pub part_of : Part → List ℕ → List ℕ
part_of part bytes = slice_range bytes part.offset (part.offset + part.size)

abbrev pub is_inside : Part → ℕ → Bool
is_inside part size = nat_le (part.offset + part.size) size

-- the attributes of a view, as a block
abbrev pub block_of : List ℕ → View → List ℕ
block_of payload view = part_of view.attributes payload

-- the shape of a kind in a view
abbrev pub shape_of : {F : Type 0} → Ghosts F → List ℕ → View → ℕ → Shape
shape_of table payload view kind =
    shape_among (within (table.rows view.message_type) (block_of payload view)) view.policy kind

-- the value of the first attribute of a kind in a view
abbrev pub found_of : List ℕ → View → ℕ → Option (List ℕ)
found_of payload view kind =
    if is_inside view.attributes (length payload) then first_of kind (listed (block_of payload view)) else None

-- the view is one of this payload: its attributes are inside, and have the shapes of its policy
pub record IsViewOf {F : Type 0} (table : Ghosts F) (payload : List ℕ) (view : View) : Type 0 where
  pub inside : is_inside view.attributes (length payload) ≡ true
  pub shaped : is_block_shaped nest_levels (table.rows view.message_type) view.policy (block_of payload view) ≡ true

-- the view of a message of this type, whose fixed header has this size: the header, as far as the
-- payload has it, and all that follows
abbrev pub whole_view : ℕ → ℕ → List ℕ → View
whole_view size t payload = record {
  message_type = t;
  policy = 0;
  missing = size - length payload;
  header = record { offset = 0; size = length (take size payload) };
  attributes = record { offset = length (take size payload); size = length (drop size payload) };
}
