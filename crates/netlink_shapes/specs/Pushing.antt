-- The error of appending an attribute to a payload.
use Rattle.std.specs.Prelude.{ℕ, ◌+◌, ◌-◌, ◌==◌, Bool, false, not, ◌&&◌, ◌||◌, List, [], ◌∷◌, drop, is_some, length, nat_le, Option, Some, None, if◌then◌else◌}
use Rattle.std.specs.List.{list_all}
use Rattle.std.specs.Option.{option_map}
use Rattle.netlink_attributes.specs.Attribute.{padding, value_max}
use Rattle.netlink_attributes.specs.Nla.{block_max}
use Rattle.netlink_attributes.specs.Views.{masked}
use Rattle.netlink_shapes.specs.Errors.{error_at, value_error}
use Rattle.netlink_shapes.specs.Listing.{first_of}
use Rattle.netlink_shapes.specs.Shapes.{Row, Scope, nest_levels, or_first, shape_in, within}
use Rattle.netlink_shapes.specs.declared.attribute_error.AttributeError.{AttributeError}
use Rattle.netlink_shapes.specs.declared.attribute_error.Reason.TheVariants.{LateChoice}
use Rattle.netlink_shapes.specs.declared.shape.Shape.{Shape}
use Rattle.netlink_shapes.specs.declared.shape.Shape.TheVariants.{Chosen, ChosenByNumber}
use Rattle.netlink_shapes.specs.declared.error.FamilyError.{FamilyError}
use Rattle.netlink_shapes.specs.declared.error.FamilyError.TheVariants.{InvalidAttribute, TooLong}

-- the value fits in an attribute, and that attribute fits in a message after a payload whose header
-- has this size
abbrev pub has_room : ℕ → List ℕ → List ℕ → Bool
has_room size bytes value =
    nat_le (length value) value_max
    && nat_le (length bytes - size + (4 + length value + padding (length value))) block_max

abbrev pub room_error : ℕ → List ℕ → List ℕ → Option FamilyError
room_error size bytes value = if has_room size bytes value then None else Some TooLong

-- a shape is chosen by the attributes of a kind
abbrev pub is_chosen_by : ℕ → Shape → Bool
is_chosen_by kind (Chosen by policy) = by == masked kind
is_chosen_by kind (ChosenByNumber by policy) = by == masked kind
is_chosen_by kind _ = false

-- a kind chooses the shape of some kind in policy 0
abbrev pub chooses : List Row → ℕ → Bool
chooses [] kind = false
chooses (row ∷ rows) kind = row.0 == 0 && is_chosen_by kind row.3 || chooses rows kind

-- the kinds that choose the shape of some kind in policy 0
abbrev pub with_chooser : Shape → List ℕ → List ℕ
with_chooser (Chosen by policy) kinds = by ∷ kinds
with_chooser (ChosenByNumber by policy) kinds = by ∷ kinds
with_chooser shape kinds = kinds

abbrev pub choosers : List Row → List ℕ
choosers [] = []
choosers (row ∷ rows) = if row.0 == 0 then with_chooser row.3 (choosers rows) else choosers rows

-- one more attribute of a kind does not change the shape of a kind
abbrev pub keeps_shape : Scope → ℕ → ℕ → Bool
keeps_shape scope kind other =
    not (is_chosen_by kind (shape_in scope.0 0 other)) || is_some (first_of (masked kind) scope.1)

-- one more attribute of a kind would change its own shape, or that of an attribute before it
abbrev pub is_late : Scope → ℕ → Bool
is_late scope kind =
    chooses scope.0 kind
    && not (keeps_shape scope kind kind && list_all (λ a. keeps_shape scope kind a.kind) scope.1)

abbrev pub late_error : Scope → ℕ → Option AttributeError
late_error scope kind = if is_late scope kind then Some (error_at 0 0 (LateChoice kind)) else None

-- the error of one more attribute, with the offset counted from its start
abbrev pub added_error : Scope → ℕ → List ℕ → Option AttributeError
added_error scope kind value =
    or_first (value_error nest_levels scope 0 0 kind value) (late_error scope kind)

-- the same for a payload, or `TooLong`
abbrev pub push_error : ℕ → List Row → List ℕ → ℕ → List ℕ → Option FamilyError
push_error size rows bytes kind value =
    or_first (option_map InvalidAttribute (added_error (within rows (drop size bytes)) kind value))
    (room_error size bytes value)

-- the same for a value that has the shape of its kind
abbrev pub satisfied_error : ℕ → List Row → List ℕ → ℕ → List ℕ → Option FamilyError
satisfied_error size rows bytes kind value =
    or_first (option_map InvalidAttribute (late_error (within rows (drop size bytes)) kind)) (room_error size bytes value)
