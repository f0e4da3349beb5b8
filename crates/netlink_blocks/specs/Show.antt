-- The text of a message: one line per attribute; the attributes of a nest follow it, indented.
-- Every line ends with a line feed, 10.
use Rattle.std.specs.Prelude.{ℕ, zero, suc, ◌+◌, not, ◌==◌, ◌&&◌, List, [], ◌∷◌, ◌++◌, take, drop, nat_le, nat_lt, codes, decimal, Option, Some, None, if◌then◌else◌}
use Rattle.std.specs.Fmt.{signed_decimal}
use Rattle.netlink_attributes.specs.Attribute.{Attribute}
use Rattle.netlink_bytes.specs.Numbers.{number_be, number_le, signed}
use Rattle.netlink_bytes.specs.Text.{hex_pair, hex_text}
pub use Rattle.netlink_shapes.specs.Listing.{before_error}
use Rattle.netlink_shapes.specs.Listing.{listed}
use Rattle.netlink_shapes.specs.Shapes.{Field, Row, by_nest, has_shape, nest_block, nest_levels, nest_of, nest_start, row_in, Scope, shape_among, within}
use Rattle.netlink_shapes.specs.Strings.{until_nul}
use Rattle.netlink_shapes.specs.declared.shape.Shape.{Shape}
use Rattle.netlink_shapes.specs.declared.shape.Shape.TheVariants.{Flag, U8, U16, U32, U64, I32, I64, Be16, Be32, Be64, BeI32, ExactLen, Ip, NulStr, Str, MinLen, Elements, Nested, HeaderNested, Chosen, ChosenByNumber, Bytes}

-- the texts of bytes, one after another
abbrev pub each_of : (ℕ → List ℕ) → List ℕ → List ℕ
each_of of_byte [] = []
each_of of_byte (b ∷ more) = of_byte b ++ each_of of_byte more

-- a byte of a string: itself if it is printable ASCII but not a backslash, else a backslash and two
-- hexadecimal digits
abbrev pub escaped : ℕ → List ℕ
escaped b =
    if nat_le 32 b && (nat_lt b 127 && not (b == 92)) then b ∷ [] else 92 ∷ hex_pair b

abbrev pub first_byte : List ℕ → ℕ
first_byte [] = 0
first_byte (b ∷ more) = b

-- integers in decimal, strings with escapes, and other bytes in hexadecimal
abbrev pub shaped_text : Shape → List ℕ → List ℕ
shaped_text Flag value = codes "set"
shaped_text U8 value = decimal (first_byte value)
shaped_text U16 value = decimal (number_le value)
shaped_text U32 value = decimal (number_le value)
shaped_text U64 value = decimal (number_le value)
shaped_text I32 value = signed_decimal (signed 4 (number_le value))
shaped_text I64 value = signed_decimal (signed 8 (number_le value))
shaped_text Be16 value = decimal (number_be value)
shaped_text Be32 value = decimal (number_be value)
shaped_text Be64 value = decimal (number_be value)
shaped_text BeI32 value = signed_decimal (signed 4 (number_be value))
shaped_text NulStr value = each_of escaped (until_nul value)
shaped_text Str value = each_of escaped (until_nul value)
shaped_text (ExactLen size) value = hex_text value
shaped_text Ip value = hex_text value
shaped_text (MinLen size) value = hex_text value
shaped_text (Elements size) value = hex_text value
shaped_text (Nested policy) value = hex_text value
shaped_text (HeaderNested size policy) value = hex_text value
shaped_text (Chosen by policy) value = hex_text value
shaped_text (ChosenByNumber by policy) value = hex_text value
shaped_text Bytes value = hex_text value

abbrev pub value_text : Shape → List ℕ → List ℕ
value_text shape value = if has_shape shape value then shaped_text shape value else hex_text value

-- the name of a kind; empty if it has no row
abbrev pub name_by : Option Row → List ℕ
name_by None = []
name_by (Some row) = row.2

abbrev pub name_in : List Row → ℕ → ℕ → List ℕ
name_in rows policy kind = name_by (row_in rows policy kind)

-- the name, or the number of a kind without one
abbrev pub label_of : List ℕ → ℕ → List ℕ
label_of [] kind = decimal kind
label_of (c ∷ name) kind = c ∷ name

abbrev pub indent : ℕ → List ℕ
indent zero = []
indent (suc depth) = 32 ∷ (32 ∷ indent depth)

abbrev pub label_text : List Row → ℕ → ℕ → ℕ → List ℕ
label_text rows policy depth kind = indent depth ++ label_of (name_in rows policy kind) kind

-- the rest of the line of a nest: its header, if it has one
abbrev pub nest_line : ℕ → List ℕ → List ℕ
nest_line zero value = codes ":\n"
nest_line (suc size) value = codes ": " ++ (hex_text (take (suc size) value) ++ (10 ∷ []))

abbrev pub value_line : Shape → List ℕ → List ℕ
value_line shape value = codes ": " ++ (value_text shape value ++ (10 ∷ []))

abbrev pub lines_of : (ℕ → List ℕ → List ℕ) → List Attribute → List ℕ
lines_of line [] = []
lines_of line (a ∷ more) = line a.kind a.value ++ lines_of line more

abbrev pub lines_in : (ℕ → List ℕ → List ℕ) → List ℕ → List ℕ
lines_in line block = lines_of line (listed block)

-- the lines of an attribute: its name and its value, or its name and the lines of its nest, after its
-- header
unfoldable pub value_lines : ℕ → Scope → ℕ → ℕ → ℕ → List ℕ → List ℕ
value_lines zero scope policy depth kind value =
    label_text scope.0 policy depth kind ++ value_line (shape_among scope policy kind) value
value_lines (suc levels) scope policy depth kind value =
    label_text scope.0 policy depth kind ++ by_nest (nest_of (shape_among scope policy kind))
    (λ inner. nest_line (nest_start (shape_among scope policy kind)) value
    ++ lines_in (value_lines levels (within scope.0 (nest_block (shape_among scope policy kind) value)) inner (depth + 1))
    (nest_block (shape_among scope policy kind) value))
    (value_line (shape_among scope policy kind) value)

-- the lines of the attributes of a block
abbrev pub block_lines : ℕ → List Row → ℕ → ℕ → List ℕ → List ℕ
block_lines levels rows policy depth block = lines_in (value_lines levels (within rows block) policy depth) block

-- the size of values of a shape; 0 if it is not fixed
abbrev pub fixed_size : Shape → ℕ
fixed_size U8 = 1
fixed_size U16 = 2
fixed_size U32 = 4
fixed_size U64 = 8
fixed_size I32 = 4
fixed_size I64 = 8
fixed_size Be16 = 2
fixed_size Be32 = 4
fixed_size Be64 = 8
fixed_size BeI32 = 4
fixed_size (ExactLen size) = size
fixed_size _ = 0

-- the line of a field of a header: its name and its value
abbrev pub field_line : Field → List ℕ → List ℕ
field_line field header =
    field.0 ++ value_line field.2 (take (fixed_size field.2) (drop field.1 header))

abbrev pub field_lines : List Field → List ℕ → List ℕ
field_lines [] header = []
field_lines (field ∷ more) header = field_line field header ++ field_lines more header

-- the message type, the fields of the header, and the attributes
abbrev pub message_text : ℕ → List Field → List Row → ℕ → List ℕ → List ℕ
message_text size fields rows t bytes =
    codes "type " ++ (decimal t ++ (codes "\n" ++ (field_lines fields (take size bytes)
    ++ block_lines nest_levels rows 0 0 (drop size bytes))))
