-- The bytes of a message, one line per field: the offset in the input, the bytes, the name and the value.
-- Every line ends with a line feed, 10.
use Rattle.std.specs.Prelude.{ℕ, zero, suc, ◌+◌, ◌-◌, ◌==◌, Bool, false, List, [], ◌∷◌, ◌++◌, take, drop, length, codes, decimal, Option, Some, None, if◌then◌else◌}
use Rattle.netlink_packet_core.specs.Attribute.{padded_size}
use Rattle.netlink_packet_core.specs.Reading.{starts_whole}
use Rattle.netlink_packet_core.specs.Text.{hex_pair}
use Rattle.netlink_packet_core.specs.Views.{attribute_of, raw_kind}
use Rattle.netlink_shapes.specs.Shapes.{Field, Row, Scope, by_nest, nest_block, nest_levels, nest_of, nest_start, shape_among, within}
use Rattle.netlink_shapes.specs.declared.shape.Shape.{Shape}
use Rattle.netlink_blocks.specs.Show.{each_of, fixed_size, indent, label_of, name_in, nest_line, value_line}

-- a byte after a space, in two hexadecimal digits
abbrev pub spaced : ℕ → List ℕ
spaced b = 32 ∷ hex_pair b

-- whether the fault, if there is one, is at this offset
abbrev pub is_fault : Option ℕ → ℕ → Bool
is_fault None at = false
is_fault (Some fault) at = fault == at

-- the start of the line of bytes at this offset: a mark if the fault is there, the offset and the bytes
abbrev pub line_start : Option ℕ → ℕ → ℕ → List ℕ → List ℕ
line_start fault depth at bytes =
    (if is_fault fault at then codes "! " else codes "  ")
    ++ (indent depth ++ (decimal at ++ (codes " " ++ each_of spaced bytes)))

-- bytes without a name, if there are any
abbrev pub rest_line : Option ℕ → ℕ → ℕ → List ℕ → List ℕ
rest_line fault depth at [] = []
rest_line fault depth at (b ∷ more) = line_start fault depth at (b ∷ more) ++ codes "\n"

-- ---- a header

-- a field of a header at this offset, if the header has bytes of it
abbrev pub field_line_at : Option ℕ → Field → ℕ → List ℕ → List ℕ
field_line_at fault field at [] = []
field_line_at fault field at (b ∷ more) =
    line_start fault 0 (at + field.1) (b ∷ more) ++ (codes "  " ++ (field.0 ++ value_line field.2 (b ∷ more)))

-- the bytes of a field in a header
abbrev pub bytes_of : Field → List ℕ → List ℕ
bytes_of field header = take (fixed_size field.2) (drop field.1 header)

-- the fields of a header at this offset, and its bytes between and after them, of which those before `from` have lines
abbrev pub field_lines_at : Option ℕ → List Field → ℕ → ℕ → List ℕ → List ℕ
field_lines_at fault [] at from header = rest_line fault 0 (at + from) (drop from header)
field_lines_at fault (field ∷ more) at from header =
    rest_line fault 0 (at + from) (take (field.1 - from) (drop from header))
    ++ (field_line_at fault field at (bytes_of field header)
    ++ field_lines_at fault more at (field.1 + length (bytes_of field header)) header)

-- ---- attributes

-- the lines of the attributes in bytes, and of what follows them, if it starts with none; there are at most `most`
unfoldable pub walk_lines : (List ℕ → List ℕ) → (List ℕ → List ℕ) → ℕ → List ℕ → List ℕ
walk_lines line rest zero bytes = rest bytes
walk_lines line rest (suc most) [] = rest []
walk_lines line rest (suc most) (b ∷ more) =
    if starts_whole (b ∷ more)
    then line (b ∷ more)
    ++ walk_lines line rest most (drop (padded_size (attribute_of (b ∷ more))) (b ∷ more))
    else rest (b ∷ more)

-- the start of the line of an attribute of this kind: some of its bytes, and its name
abbrev pub named_start : Option ℕ → List Row → ℕ → ℕ → ℕ → List ℕ → ℕ → List ℕ
named_start fault rows policy depth at bytes kind =
    line_start fault depth at bytes ++ (codes "  " ++ label_of (name_in rows policy kind) kind)

-- the line of the attribute that bytes start with, if it is no nest
abbrev pub flat_line : Option ℕ → Scope → ℕ → ℕ → ℕ → List ℕ → List ℕ
flat_line fault scope policy depth at bytes =
    named_start fault scope.0 policy depth at (take (padded_size (attribute_of bytes)) bytes) (raw_kind bytes)
    ++ value_line (shape_among scope policy (raw_kind bytes)) (attribute_of bytes).value

-- the line of a nest of this shape, with the bytes of its header
abbrev pub nest_start_line : Option ℕ → List Row → ℕ → ℕ → ℕ → Shape → List ℕ → List ℕ
nest_start_line fault rows policy depth at shape bytes =
    named_start fault rows policy depth at (take (4 + nest_start shape) bytes) (raw_kind bytes)
    ++ nest_line (nest_start shape) (attribute_of bytes).value

-- the lines of the attribute that bytes start with, which end at this offset; those of a nest's attributes follow
-- its own
unfoldable pub attribute_lines : Option ℕ → ℕ → Scope → ℕ → ℕ → ℕ → List ℕ → List ℕ
attribute_lines fault zero scope policy depth end bytes =
    flat_line fault scope policy depth (end - length bytes) bytes
attribute_lines fault (suc levels) scope policy depth end bytes =
    by_nest (nest_of (shape_among scope policy (raw_kind bytes)))
    (λ inner. nest_start_line fault scope.0 policy depth (end - length bytes) (shape_among scope policy (raw_kind bytes)) bytes
    ++ walk_lines
    (attribute_lines fault levels
    (within scope.0 (nest_block (shape_among scope policy (raw_kind bytes)) (attribute_of bytes).value)) inner (depth + 1)
    (end - length bytes + 4 + length (attribute_of bytes).value))
    (λ rest. rest_line fault (depth + 1) (end - length bytes + 4 + length (attribute_of bytes).value - length rest) rest)
    (length (nest_block (shape_among scope policy (raw_kind bytes)) (attribute_of bytes).value))
    (nest_block (shape_among scope policy (raw_kind bytes)) (attribute_of bytes).value))
    (flat_line fault scope policy depth (end - length bytes) bytes)

-- the lines of the rest of a block that ends at this offset, by the block's rows
abbrev pub block_rest : Option ℕ → ℕ → Scope → ℕ → ℕ → ℕ → List ℕ → List ℕ
block_rest fault levels scope policy depth end bytes =
    walk_lines (attribute_lines fault levels scope policy depth end)
    (λ rest. rest_line fault depth (end - length rest) rest) (length bytes) bytes

-- the lines of a block that ends at this offset
abbrev pub block_lines_at : Option ℕ → ℕ → List Row → ℕ → ℕ → ℕ → List ℕ → List ℕ
block_lines_at fault levels rows policy depth end block = block_rest fault levels (within rows block) policy depth end block

-- ---- a payload

-- the lines of a payload at this offset, by the size of its header, its fields and its rows
abbrev pub payload_lines : ℕ → List Field → List Row → Option ℕ → ℕ → List ℕ → List ℕ
payload_lines size fields rows fault at payload =
    field_lines_at fault fields at 0 (take size payload)
    ++ block_lines_at fault nest_levels rows 0 0 (at + length payload) (drop size payload)
