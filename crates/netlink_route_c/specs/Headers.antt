-- The fields of the fixed header of a view.
use Rattle.std.specs.Prelude.{◌≡◌, ◌≢◌, ◌+◌, ◌/◌, ◌%◌, ◌==◌, ◌&&◌, ℕ, Bool, List, nat_le, if◌then◌else◌}
use Rattle.netlink_route_c.specs.Views.{is_inside, part_of}
use Rattle.netlink_route_c.specs.declared.view.View.{View}

-- the header, as far as the payload has it
abbrev pub header_of : List ℕ → View → List ℕ
header_of payload view = part_of view.header payload

-- whether a field of this size is inside the header, and the header inside the payload
abbrev pub is_field : ℕ → ℕ → ℕ → ℕ → View → Bool
is_field shape size field len view =
    is_inside view.header len && (field % 256 == shape && nat_le (field / 256 + size) (view.header.size + view.missing))

-- what a getter of fields of this shape and size returns
abbrev pub field_result : ℕ → ℕ → ℕ → ℕ → View → ℕ
field_result shape size field len view = if is_field shape size field len view then 0 else 34

-- what a getter does that returns this and whose field has this value
pub record GetsField {X : Type 0} (is : ℕ) (value old new : X) (answer : ℕ) : Type 0 where
  pub answers : answer ≡ is
  pub written : answer ≡ 0 → new ≡ value
  pub unchanged : answer ≢ 0 → new ≡ old
