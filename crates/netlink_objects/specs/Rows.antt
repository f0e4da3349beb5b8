-- Members that are one value of a message each, in a table.
use Rattle.std.specs.Prelude.{ℕ, ◌+◌, List, drop, length, map, nat_le, take, Option, Some, None, if◌then◌else◌}
use denote.Ref.{Bor}
use Rattle.netlink_family.specs.Finding.{found_in}
use Rattle.netlink_json.specs.Fields.{Field, absent, present}
use Rattle.netlink_json.specs.Json.{Json}
use Rattle.netlink_names.specs.declared.device.Known.{Known}
use Rattle.netlink_objects.specs.Forms.{form_json}
use Rattle.netlink_objects.specs.declared.form.Form.{Form}
use Rattle.netlink_objects.specs.declared.row.Place.{Place}
use Rattle.netlink_objects.specs.declared.row.Place.TheVariants.{Attribute, AttributeOr, Either, Header, Inside}

-- the key, where the value is, and how it is shown
abbrev pub Row : Type 0
Row = List ℕ × Place × Form

abbrev pub rows_in : List (Bor (List ℕ) × Place × Form) → List Row
rows_in rows = map (λ row. (row.0.now, row.1, row.2)) rows

-- bytes of a header, if it has them
abbrev pub part_of : List ℕ → ℕ → ℕ → Option (List ℕ)
part_of header at size = if nat_le (at + size) (length header) then Some (take size (drop at header)) else None

abbrev pub or_other : Option (List ℕ) → Option (List ℕ) → Option (List ℕ)
or_other None other = other
or_other (Some value) other = Some value

abbrev pub part_in : Option (List ℕ) → ℕ → ℕ → Option (List ℕ)
part_in None at size = None
part_in (Some value) at size = part_of value at size

-- the value of a row, by the header and the attributes of a message
abbrev pub value_at : List ℕ → List ℕ → Place → Option (List ℕ)
value_at header block (Header at size) = part_of header at size
value_at header block (Attribute kind) = found_in block kind
value_at header block (Either one two) = or_other (found_in block one) (found_in block two)
value_at header block (AttributeOr kind at size) = or_other (found_in block kind) (part_of header at size)
value_at header block (Inside kind at size) = part_in (found_in block kind) at size

abbrev pub field_of : List ℕ → Option Json → Field
field_of key None = absent
field_of key (Some value) = present key value

abbrev pub value_field : List Known → List ℕ → Form → Option (List ℕ) → Field
value_field known key form None = absent
value_field known key form (Some value) = field_of key (form_json known form value)

unfoldable pub row_field : List Known → List ℕ → List ℕ → Row → Field
row_field known header block row = value_field known row.0 row.2 (value_at header block row.1)

-- the members of rows
abbrev pub row_fields : List Known → List ℕ → List ℕ → List Row → List Field
row_fields known header block rows = map (row_field known header block) rows
