-- The members of an object, written one after another.
use Rattle.std.specs.Prelude.{ℕ, ◌≡◌, List, [], ◌∷◌, ◌++◌, map, codes, if◌then◌else◌, string_bytes}
use Rattle.std.specs.List.{fold}
use Rattle.std.specs.Str.{is_utf8}
use Rattle.netlink_packet_core.specs.Text.{hex_text}
use Rattle.netlink_json.specs.Json.{Json, Items, Members, after_comma, array, item, items_text, json_text, member, no_items, no_members, object, text}
use Rattle.netlink_json.specs.Strings.{string_text}
use Rattle.netlink_json.specs.declared.object.Object.{Object}
use Rattle.netlink_json.specs.declared.array.Array.{Array}

-- a member, or none
pub data Field : Type 0 where
  absent : Field
  present : List ℕ → Json → Field

abbrev pub members_of : List Field → Members
members_of [] = no_members
members_of (absent ∷ fields) = members_of fields
members_of (present key value ∷ fields) = member key value (members_of fields)

abbrev pub items_of : List Json → Items
items_of [] = no_items
items_of (value ∷ values) = item value (items_of values)

-- the members of several parts
abbrev pub joined : List (List Field) → List Field
joined [] = []
joined (part ∷ parts) = part ++ joined parts

-- ---- bytes that are not UTF-8

-- the bytes of a string that is not UTF-8, in hexadecimal
abbrev pub raw_text : Json → List Json
raw_text (text bytes) = if is_utf8 bytes then [] else text (hex_text bytes) ∷ []
raw_text value = []

-- of an array, those of each such item
abbrev pub raw_items : Items → List Json
raw_items no_items = []
raw_items (item value more) = raw_text value ++ raw_items more

abbrev pub raw_array : List ℕ → List Json → Field
raw_array key [] = absent
raw_array key (value ∷ values) = present key (array (items_of (value ∷ values)))

abbrev pub raw_one : List ℕ → List Json → Field
raw_one key [] = absent
raw_one key (value ∷ values) = present key value

abbrev pub raw_value : List ℕ → Json → Field
raw_value key (array items) = raw_array key (raw_items items)
raw_value key value = raw_one key (raw_text value)

-- what a member adds to the member `raw`
abbrev pub raw_field : Field → Field
raw_field absent = absent
raw_field (present key value) = raw_value key value

abbrev pub raw_member : Members → List Field
raw_member no_members = []
raw_member (member key value more) = present (codes "raw") (object (member key value more)) ∷ []

-- the object with these members, and with a last member `raw` if a string in them is not UTF-8
abbrev pub object_of : List Field → Json
object_of fields = object (members_of (fields ++ raw_member (members_of (map raw_field fields))))

-- ---- the same as it is written

-- the members so far, each after a comma, and in the same way those of `raw`
abbrev pub Written : Type 0
Written = List ℕ × List ℕ

abbrev pub written : Object → Written
written o = (string_bytes o.text, string_bytes o.raw)

abbrev pub no_field : Written
no_field = ([], [])

abbrev pub field_text : List ℕ → Json → List ℕ
field_text key value = codes "," ++ (string_text key ++ (codes ":" ++ json_text value))

-- a text, followed by a member
abbrev pub followed : List ℕ → Field → List ℕ
followed before absent = before
followed before (present key value) = before ++ field_text key value

unfoldable pub with_field : Written → Field → Written
with_field so_far field = (followed so_far.0 field, followed so_far.1 (raw_field field))

-- members, and members of several parts
abbrev pub with_fields : Written → List Field → Written
with_fields so_far fields = fold with_field so_far fields

abbrev pub with_parts : Written → List (List Field) → Written
with_parts so_far parts = fold with_fields so_far parts

-- an object and an array
abbrev pub braced : List ℕ → List ℕ
braced members = codes "{" ++ (after_comma members ++ codes "}")

abbrev pub bracketed : List ℕ → List ℕ
bracketed items = codes "[" ++ (after_comma items ++ codes "]")

abbrev pub raw_end : List ℕ → List ℕ
raw_end [] = []
raw_end (b ∷ raw) = codes "," ++ (string_text (codes "raw") ++ (codes ":" ++ braced (b ∷ raw)))

unfoldable pub object_text : Written → List ℕ
object_text so_far = braced (so_far.0 ++ raw_end so_far.1)

-- the items of an array so far, in the same way
abbrev pub items_written : Array → Written
items_written a = (string_bytes a.text, string_bytes a.raw)

abbrev pub values_text : List Json → List ℕ
values_text values = items_text (items_of values)

abbrev pub with_raw_items : List ℕ → List Json → List ℕ
with_raw_items raw [] = raw
with_raw_items raw (value ∷ values) = raw ++ values_text (value ∷ values)

abbrev pub with_raw_array : List ℕ → List ℕ → List ℕ → List ℕ
with_raw_array raw key [] = raw
with_raw_array raw key (b ∷ items) =
    raw ++ (codes "," ++ (string_text key ++ (codes ":" ++ bracketed (b ∷ items))))

unfoldable pub with_item : Written → Json → Written
with_item so_far value = (so_far.0 ++ (codes "," ++ json_text value), with_raw_items so_far.1 (raw_text value))

abbrev pub with_items : Written → List Json → Written
with_items so_far values = fold with_item so_far values

-- an object has its old members and this one, or these
abbrev pub Adds : Object → Object → Field → Type 0
Adds old new field = written new ≡ with_field (written old) field

abbrev pub AddsAll : Object → Object → List Field → Type 0
AddsAll old new fields = written new ≡ with_fields (written old) fields

-- an object has its old members and these parts
abbrev pub AddsParts : Object → Object → List (List Field) → Type 0
AddsParts old new parts = written new ≡ with_parts (written old) parts

-- an array has its old items and this one
abbrev pub AddsItem : Array → Array → Json → Type 0
AddsItem old new value = items_written new ≡ with_item (items_written old) value

-- an object has this member whose value is an object with these members
abbrev pub AddsObject : Object → Object → List ℕ → Object → Type 0
AddsObject old new key inner =
    (parts : List (List Field)) → written inner ≡ with_parts no_field parts
    → Adds old new (present key (object_of (joined parts)))

-- an array has this item, which is an object with these members
abbrev pub AddsObjectItem : Array → Array → Object → Type 0
AddsObjectItem old new inner =
    (parts : List (List Field)) → written inner ≡ with_parts no_field parts
    → AddsItem old new (object_of (joined parts))

-- an object has this member whose value is an array of these items
abbrev pub AddsArray : Object → Object → List ℕ → Array → Type 0
AddsArray old new key items =
    (values : List Json) → items_written items ≡ with_items no_field values
    → Adds old new (present key (array (items_of values)))
