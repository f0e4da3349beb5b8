-- What the getters of a view return and write.
use Rattle.std.specs.Prelude.{◌≡◌, ◌≢◌, ◌+◌, ◌-◌, ◌==◌, ◌≤◌, ℕ, List, length, Option, Some, None, if◌then◌else◌}
use Rattle.netlink_family.specs.Finding.{bytes_by, nest_by, policy_by}
use Rattle.netlink_family.specs.Shapes.{has_shape, nest_start}
use Rattle.netlink_family.specs.declared.family.Table.{Ghosts}
use Rattle.netlink_family.specs.declared.shape.Shape.{Shape}
use Rattle.netlink_route_c.specs.Views.{IsViewOf, block_of, found_of, part_of, shape_of}
use Rattle.netlink_route_c.specs.declared.view.Part.{Part}
use Rattle.netlink_route_c.specs.declared.view.View.{View}

-- what a getter returns for its value: 0, or `NO_PLACE` if there is none
abbrev pub found_result : {X : Type 0} → Option X → ℕ
found_result None = 34
found_result (Some x) = 0

-- what each getter returns for an attribute that is absent, or does not have its shape
abbrev pub absent_result : Shape → Option (List ℕ) → ℕ
absent_result shape None = 34
absent_result shape (Some value) = if has_shape shape value then 0 else 36

-- what a getter returns for an attribute and for the value that it is to the getter
abbrev pub get_result : {X : Type 0} → Shape → Option (List ℕ) → Option X → ℕ
get_result shape None got = 34
get_result shape (Some value) got = if has_shape shape value then found_result got else 36

-- what a getter does: it returns 0 and writes what `by` makes of the shape of the kind and of the
-- first attribute of the kind; `NO_PLACE` if that is nothing; or `WRONG_SHAPE` if the value does
-- not have its shape, which is never so in a view of the payload
pub record Gets {F X : Type 0} (table : Ghosts F) (by : Shape → Option (List ℕ) → Option X) (payload : List ℕ)
    (view : View) (kind : ℕ) (old new : X) (answer : ℕ) : Type 0 where
  pub answers : answer ≡ get_result (shape_of table payload view kind) (found_of payload view kind)
      (by (shape_of table payload view kind) (found_of payload view kind))
  pub written : answer ≡ 0 → by (shape_of table payload view kind) (found_of payload view kind) ≡ Some new
  pub unchanged : answer ≢ 0 → new ≡ old
  pub shaped : IsViewOf table payload view → answer ≢ 36

-- the same, of a getter that writes where the bytes are
pub record GetsPart {F : Type 0} (table : Ghosts F) (by : Shape → Option (List ℕ) → Option (List ℕ)) (payload : List ℕ)
    (view : View) (kind : ℕ) (old new : Part) (answer : ℕ) : Type 0 where
  pub answers : answer ≡ get_result (shape_of table payload view kind) (found_of payload view kind)
      (by (shape_of table payload view kind) (found_of payload view kind))
  pub written : answer ≡ 0 → by (shape_of table payload view kind) (found_of payload view kind) ≡ Some (part_of new payload)
  pub inside : answer ≡ 0 → new.offset + new.size ≤ length payload
  pub unchanged : answer ≢ 0 → new ≡ old
  pub shaped : IsViewOf table payload view → answer ≢ 36

-- a value of any shape
abbrev pub any_by : Shape → Option (List ℕ) → Option (List ℕ)
any_by shape found = found

-- a MAC address
abbrev pub mac_in : Option (List ℕ) → Option (List ℕ)
mac_in None = None
mac_in (Some value) = if length value == 6 then Some value else None

abbrev pub mac_by : Shape → Option (List ℕ) → Option (List ℕ)
mac_by shape found = mac_in (bytes_by shape found)

-- the view of a nest whose value is this part of the payload
abbrev pub nest_view : ℕ → ℕ → Shape → Part → View
nest_view t policy shape part = record {
  message_type = t;
  policy = policy;
  missing = 0;
  header = record { offset = part.offset; size = nest_start shape };
  attributes = record { offset = part.offset + nest_start shape; size = part.size - nest_start shape };
}

-- what the getter of a nest does; the nest of a view of the payload is a view of it too
pub record GetsNest {F : Type 0} (table : Ghosts F) (payload : List ℕ) (view : View) (kind : ℕ) (old new : View)
    (answer : ℕ) : Type 0 where
  pub answers : answer ≡ get_result (shape_of table payload view kind) (found_of payload view kind)
      (nest_by (shape_of table payload view kind) (found_of payload view kind))
  pub written : answer ≡ 0 → (part : Part) × (found_of payload view kind ≡ Some (part_of part payload))
      × (part.offset + part.size ≤ length payload)
      × (new ≡ nest_view view.message_type (policy_by (shape_of table payload view kind)) (shape_of table payload view kind) part)
  pub nest : answer ≡ 0 → nest_by (shape_of table payload view kind) (found_of payload view kind)
      ≡ Some (block_of payload new)
  pub unchanged : answer ≢ 0 → new ≡ old
  pub shaped : IsViewOf table payload view → answer ≢ 36
  pub again : IsViewOf table payload view → answer ≡ 0 → IsViewOf table payload new
