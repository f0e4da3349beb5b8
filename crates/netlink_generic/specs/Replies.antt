-- What the controller's messages contain about families.
use Rattle.std.specs.Prelude.{ℕ, ◌==◌, Bool, false, ◌&&◌, List, [], ◌∷◌, Option, Some, None, bytes_eq, is_none, slice_index, if◌then◌else◌}
use Rattle.std.specs.Option.{option_map}
use Rattle.netlink_packet_core.specs.Header.{field, payload_of}
use Rattle.netlink_packet_core.specs.Numbers.{number_le}
use Rattle.netlink_family.specs.Errors.{family_error}
use Rattle.netlink_family.specs.Finding.{first_at}
use Rattle.netlink_family.specs.Shapes.{Row, named, or_first}
use Rattle.netlink_family.specs.Strings.{until_nul}
use Rattle.netlink_family.specs.declared.error.FamilyError.{FamilyError}
use Rattle.netlink_generic.specs.declared.controller.TheConstants.{CTRL_ATTR_FAMILY_ID, CTRL_ATTR_FAMILY_NAME, CTRL_CMD_NEWFAMILY, GENL_HDRLEN, ROWS, TYPES}

-- the rows of the controller's table
abbrev pub controller_rows : List Row
controller_rows = named ROWS.now (λ name. name.now)

-- the error of a payload of this message type
abbrev pub controller_error : ℕ → List ℕ → Option FamilyError
controller_error t payload =
    family_error TYPES.now (λ _. false) (λ _. GENL_HDRLEN) (λ _. controller_rows) t payload

-- the id of the family that a payload is about
abbrev pub id_in : List ℕ → Option ℕ
id_in payload = option_map number_le (first_at GENL_HDRLEN payload CTRL_ATTR_FAMILY_ID)

-- the family's name, without a NUL
abbrev pub name_in : List ℕ → Option (List ℕ)
name_in payload = option_map until_nul (first_at GENL_HDRLEN payload CTRL_ATTR_FAMILY_NAME)

abbrev pub is_some_name : List ℕ → Option (List ℕ) → Bool
is_some_name name None = false
is_some_name name (Some found) = bytes_eq found name

-- a frame is a message of the controller without an error, its command is `CTRL_CMD_NEWFAMILY`,
-- and the family has this name
abbrev pub describes : List ℕ → List ℕ → Bool
describes name frame =
    is_none (controller_error (field 4 2 frame) (payload_of frame))
    && (slice_index (payload_of frame) 0 == CTRL_CMD_NEWFAMILY
    && is_some_name name (name_in (payload_of frame)))

-- the payload of such a frame
abbrev pub family_of : List ℕ → List ℕ → Option (List ℕ)
family_of name frame = if describes name frame then Some (payload_of frame) else None

-- the payload of the first such frame
abbrev pub first_named : List ℕ → List (List ℕ) → Option (List ℕ)
first_named name [] = None
first_named name (frame ∷ more) = or_first (family_of name frame) (first_named name more)
