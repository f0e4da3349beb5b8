-- The check of a value that is to be written.
use Rattle.std.specs.Prelude.{◌≡◌, ◌≢◌, ◌+◌, ◌==◌, ◌||◌, ℕ, List, length, nat_le, Option, Some, None, if◌then◌else◌}
use Rattle.std.specs.Option.{option_map}
use Rattle.netlink_family.specs.Errors.{value_error}
use Rattle.netlink_family.specs.Shapes.{Scope, nest_levels, shape_among}
use Rattle.netlink_family.specs.declared.family.Table.{Ghosts}
use Rattle.netlink_packet_core.specs.Attribute.{value_max}
use Rattle.netlink_route_c.specs.Errors.{attribute_numbers, with}
use Rattle.netlink_route_c.specs.Items.{scope_of}
use Rattle.netlink_route_c.specs.ShapeNumbers.{shape_numbers}
use Rattle.netlink_route_c.specs.declared.error.ErrorNumbers.{ErrorNumbers}
use Rattle.netlink_route_c.specs.declared.view.View.{View}

-- the table gives the kind another shape
abbrev pub misfit : ℕ → ℕ → ℕ → ℕ → ℕ → ErrorNumbers
misfit policy at kind own shape = record {
  reason = 36;
  kind = kind;
  policy = policy;
  offset = at;
  expected = own;
  received = shape;
}

-- a value of this shape has its size, and in a nest its attributes have the shapes of their kinds
abbrev pub fitting_numbers : Scope → ℕ → ℕ → ℕ → List ℕ → Option ErrorNumbers
fitting_numbers scope policy at kind value =
    if nat_le (length value) value_max
    then option_map attribute_numbers (value_error nest_levels scope policy at kind value)
    else Some (with 33 0 0 0)

-- the numbers of the error of a value that is written at an offset, if it is to have the shape of
-- this number; 65535 is any shape
abbrev pub value_numbers : Scope → ℕ → ℕ → ℕ → ℕ → List ℕ → Option ErrorNumbers
value_numbers scope policy at shape kind value =
    if shape == 65535 || shape == (shape_numbers (shape_among scope policy kind)).shape
    then fitting_numbers scope policy at kind value
    else Some (misfit policy at kind (shape_numbers (shape_among scope policy kind)).shape shape)

-- the same for a value that is written at the end of a view
abbrev pub check_numbers : {F : Type 0} → Ghosts F → List ℕ → View → ℕ → ℕ → List ℕ → Option ErrorNumbers
check_numbers table payload view shape kind value =
    value_numbers (scope_of table payload view) view.policy (view.attributes.offset + view.attributes.size) shape kind value

-- the answer is 0, or the reason of the error that was found, whose numbers are written
abbrev pub Checks : Option ErrorNumbers → ErrorNumbers → ErrorNumbers → ℕ → Type 0
Checks None old new answer = (answer ≡ 0) × (new ≡ old)
Checks (Some numbers) old new answer = (answer ≡ numbers.reason) × (answer ≢ 0) × (new ≡ numbers)
