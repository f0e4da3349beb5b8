-- Finding the first attribute of a kind.
use Rattle.std.specs.Prelude.{ℕ, ℤ, List, drop, length, slice_index, take, Option, Some, None}
use Rattle.std.specs.Option.{option_map}
use Rattle.netlink_attributes.specs.Attribute.{Attribute}
use Rattle.netlink_bytes.specs.Numbers.{number_be, number_le, signed}
use Rattle.netlink_attributes.specs.Reading.{attributes_in}
pub use Rattle.netlink_shapes.specs.Listing.{first_of}
use Rattle.netlink_shapes.specs.Errors.{nest_error}
use Rattle.netlink_shapes.specs.Shapes.{Row, nest_levels, rows_in, shape_among, within}
use Rattle.netlink_shapes.specs.Strings.{until_nul}
use Rattle.netlink_blocks.specs.declared.block_view.BlockView.{BlockView}
use Rattle.netlink_shapes.specs.declared.attribute_error.AttributeError.{AttributeError}
use Rattle.netlink_shapes.specs.declared.shape.Shape.{Shape}
use Rattle.netlink_shapes.specs.declared.shape.Shape.TheVariants.{U8, U16, U32, U64, I32, I64, Be16, Be32, Be64, BeI32, ExactLen, Ip, NulStr, Str, MinLen, Elements, Nested, HeaderNested, Bytes}

-- the first attribute of a kind, if the walk has no error
abbrev pub first_in : ℕ → Option (List Attribute) → Option (List ℕ)
first_in kind None = None
first_in kind (Some all) = first_of kind all

-- the same in a block
abbrev pub found_in : List ℕ → ℕ → Option (List ℕ)
found_in block kind = first_in kind (attributes_in block)

-- the first attribute of a kind in a view, and the shape of the kind there
abbrev pub found_at : BlockView → ℕ → Option (List ℕ)
found_at view kind = found_in view.block.now kind

abbrev pub shape_at : BlockView → ℕ → Shape
shape_at view kind = shape_among (within (rows_in view.rows.list.now) view.block.now) view.policy kind

-- in a nest that may be missing
abbrev pub found_within : Option (List ℕ) → ℕ → Option (List ℕ)
found_within None kind = None
found_within (Some block) kind = found_in block kind

-- in a payload, after a fixed header of this size
abbrev pub first_at : ℕ → List ℕ → ℕ → Option (List ℕ)
first_at size bytes kind = found_in (drop size bytes) kind

-- what a getter returns: the value if the table gives the kind the getter's shape, else nothing
abbrev pub u8_by : Shape → Option (List ℕ) → Option ℕ
u8_by U8 found = option_map (λ value. slice_index value 0) found
u8_by _ found = None

abbrev pub u16_by : Shape → Option (List ℕ) → Option ℕ
u16_by U16 found = option_map number_le found
u16_by _ found = None

abbrev pub u32_by : Shape → Option (List ℕ) → Option ℕ
u32_by U32 found = option_map number_le found
u32_by _ found = None

abbrev pub u64_by : Shape → Option (List ℕ) → Option ℕ
u64_by U64 found = option_map number_le found
u64_by _ found = None

abbrev pub i32_by : Shape → Option (List ℕ) → Option ℤ
i32_by I32 found = option_map (λ value. signed 4 (number_le value)) found
i32_by _ found = None

abbrev pub i64_by : Shape → Option (List ℕ) → Option ℤ
i64_by I64 found = option_map (λ value. signed 8 (number_le value)) found
i64_by _ found = None

abbrev pub be16_by : Shape → Option (List ℕ) → Option ℕ
be16_by Be16 found = option_map number_be found
be16_by _ found = None

abbrev pub be32_by : Shape → Option (List ℕ) → Option ℕ
be32_by Be32 found = option_map number_be found
be32_by _ found = None

abbrev pub be64_by : Shape → Option (List ℕ) → Option ℕ
be64_by Be64 found = option_map number_be found
be64_by _ found = None

abbrev pub be_i32_by : Shape → Option (List ℕ) → Option ℤ
be_i32_by BeI32 found = option_map (λ value. signed 4 (number_be value)) found
be_i32_by _ found = None

-- a string without its NUL
abbrev pub str_by : Shape → Option (List ℕ) → Option (List ℕ)
str_by NulStr found = option_map until_nul found
str_by Str found = option_map until_nul found
str_by _ found = None

abbrev pub ip_by : Shape → Option (List ℕ) → Option (List ℕ)
ip_by Ip found = found
ip_by _ found = None

abbrev pub exact_by : Shape → Option (List ℕ) → Option (List ℕ)
exact_by (ExactLen size) found = found
exact_by _ found = None

-- bytes of any size or of a minimum size
abbrev pub bytes_by : Shape → Option (List ℕ) → Option (List ℕ)
bytes_by Bytes found = found
bytes_by (MinLen size) found = found
bytes_by _ found = None

-- the elements of a list: the size of each, and their bytes
abbrev pub elements_by : Shape → Option (List ℕ) → Option (ℕ × List ℕ)
elements_by (Elements size) found = option_map (λ value. (size, value)) found
elements_by _ found = None

-- the fewest bytes of a value of this shape, if it states them
abbrev pub least_by : Shape → ℕ
least_by (MinLen size) = size
least_by _ = 0

-- the first error of a value that is read as attributes of a policy; its offset is counted from the
-- start of the value
abbrev pub error_as : List Row → ℕ → Option (List ℕ) → Option AttributeError
error_as rows policy None = None
error_as rows policy (Some value) = nest_error nest_levels rows policy (length value) value

-- the attributes of a nest, and their policy
abbrev pub nest_by : Shape → Option (List ℕ) → Option (List ℕ)
nest_by (Nested policy) found = found
nest_by (HeaderNested size policy) found = option_map (drop size) found
nest_by _ found = None

abbrev pub policy_by : Shape → ℕ
policy_by (Nested policy) = policy
policy_by (HeaderNested size policy) = policy
policy_by _ = 0

-- the header before them
abbrev pub nest_header_by : Shape → Option (List ℕ) → Option (List ℕ)
nest_header_by (HeaderNested size policy) found = option_map (take size) found
nest_header_by _ found = None
