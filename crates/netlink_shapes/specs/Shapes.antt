-- The shapes of values, and the tables of families.
use Rattle.std.specs.Prelude.{ℕ, zero, suc, ◌≡◌, ◌==◌, ◌^◌, ◌%◌, Bool, true, false, not, ◌&&◌, ◌||◌, List, [], ◌∷◌, length, drop, map, bytes_eq, slice_index, nat_le, nat_lt, Option, Some, None, if◌then◌else◌}
use Rattle.std.specs.List.{list_all}
use Rattle.std.specs.Option.{ForSome}
use denote.Ref.{Bor}
use Rattle.netlink_attributes.specs.Attribute.{Attribute}
use Rattle.netlink_bytes.specs.Numbers.{number_be, number_le}
use Rattle.netlink_attributes.specs.Reading.{attributes_in}
use Rattle.netlink_attributes.specs.Views.{masked}
use Rattle.netlink_shapes.specs.Blocks.{KeepsValues, KindReading, ValueReading}
use Rattle.netlink_shapes.specs.Listing.{first_of, listed}
pub use Rattle.netlink_shapes.specs.Strings.{nul_only_last, nul_terminated}
use Rattle.netlink_shapes.specs.Strings.{until_nul}
use Rattle.netlink_shapes.specs.declared.shape.Shape.{Shape}
use Rattle.netlink_shapes.specs.declared.shape.Shape.TheVariants.{Flag, U8, U16, U32, U64, I32, I64, Be16, Be32, Be64, BeI32, ExactLen, Ip, NulStr, Str, MinLen, Elements, Nested, HeaderNested, Chosen, ChosenByNumber, Bytes}

-- a row of a table: the policy that it belongs to, a kind, its name, and the shape of its values
abbrev pub Row : Type 0
Row = ℕ × ℕ × List ℕ × Shape

-- the rows of a table, given the bytes of a name
abbrev pub named : {N : Type 0} → List (ℕ × ℕ × N × Shape) → (N → List ℕ) → List Row
named table name = map (λ row. (row.0, row.1, name row.2, row.3)) table

-- a row at run time, a borrowed one, and the rows of a table at run time
abbrev pub stored_row : ℕ × ℕ × Bor (List ℕ) × Shape → Row
stored_row row = (row.0, row.1, row.2.now, row.3)

abbrev pub borrowed_row : Bor (ℕ × ℕ × Bor (List ℕ) × Shape) → Row
borrowed_row row = stored_row row.now

abbrev pub rows_in : List (ℕ × ℕ × Bor (List ℕ) × Shape) → List Row
rows_in table = named table (λ (name : Bor (List ℕ)). name.now)

-- a field of a fixed header: its name, its offset, and the shape of its value
abbrev pub Field : Type 0
Field = List ℕ × ℕ × Shape

-- the fields of a header, given the bytes of a name
abbrev pub named_fields : {N : Type 0} → List (N × ℕ × Shape) → (N → List ℕ) → List Field
named_fields fields name = map (λ field. (name field.0, field.1, field.2)) fields

abbrev pub fields_in : List (Bor (List ℕ) × ℕ × Shape) → List Field
fields_in fields = named_fields fields (λ (name : Bor (List ℕ)). name.now)

-- the kind of a row for every kind without one of its own
abbrev pub any_kind : ℕ
any_kind = 65535

-- a size is a multiple of that of an element, which is not 0
abbrev pub is_multiple : ℕ → ℕ → Bool
is_multiple size element = not (element == 0) && size % element == 0

abbrev pub has_shape : Shape → List ℕ → Bool
has_shape Flag value = length value == 0
has_shape U8 value = length value == 1
has_shape U16 value = length value == 2
has_shape U32 value = length value == 4
has_shape U64 value = length value == 8
has_shape I32 value = length value == 4
has_shape I64 value = length value == 8
has_shape Be16 value = length value == 2
has_shape Be32 value = length value == 4
has_shape Be64 value = length value == 8
has_shape BeI32 value = length value == 4
has_shape (ExactLen size) value = length value == size
has_shape Ip value = length value == 4 || length value == 16
has_shape NulStr value = nul_terminated value
has_shape Str value = nul_only_last value
has_shape (MinLen size) value = nat_le size (length value)
has_shape (Elements size) value = is_multiple (length value) size
has_shape (Nested policy) value = true
has_shape (HeaderNested size policy) value = nat_le size (length value)
has_shape (Chosen by policy) value = false
has_shape (ChosenByNumber by policy) value = false
has_shape Bytes value = true

-- the first row of a policy and a kind
abbrev pub row_at : List Row → ℕ → ℕ → Option Row
row_at [] policy kind = None
row_at (row ∷ rows) policy kind =
    if row.0 == policy && row.1 == kind then Some row else row_at rows policy kind

-- the first of the two, if there is one
abbrev pub or_first : {T : Type 0} → Option T → Option T → Option T
or_first (Some first) later = Some first
or_first None later = later

-- the row of a kind in a policy, or else the policy's row for every kind; the flag bits of a kind
-- are ignored
abbrev pub row_in : List Row → ℕ → ℕ → Option Row
row_in rows policy kind = or_first (row_at rows policy (masked kind)) (row_at rows policy any_kind)

-- `Bytes` if there is no row
abbrev pub shape_by : Option Row → Shape
shape_by None = Bytes
shape_by (Some row) = row.3

-- the shape of a kind in a policy
abbrev pub shape_in : List Row → ℕ → ℕ → Shape
shape_in rows policy kind = shape_by (row_in rows policy kind)

-- if there is a shape in `other`, it is that of the kinds without a row
abbrev pub CachesOther : List Row → ℕ → Option Shape → Type 0
CachesOther rows policy other = ForSome other (λ shape. shape ≡ shape_by (row_at rows policy any_kind))

-- ---- shapes that are chosen by a value

-- the rows of a table, and the attributes of the block that they are used for
abbrev pub Scope : Type 0
Scope = List Row × List Attribute

-- the same, given the bytes of the block
abbrev pub within : List Row → List ℕ → Scope
within rows block = (rows, listed block)

-- the shape in the first row of a policy with this name; `Bytes` if there is none
abbrev pub choice_at : List Row → ℕ → List ℕ → Shape
choice_at [] policy name = Bytes
choice_at (row ∷ rows) policy name =
    if row.0 == policy && bytes_eq row.2 name then row.3 else choice_at rows policy name

-- the shape that a value chooses by its bytes before its first NUL; `Bytes` without a value
abbrev pub choice_by : List Row → ℕ → Option (List ℕ) → Shape
choice_by rows policy None = Bytes
choice_by rows policy (Some value) = choice_at rows policy (until_nul value)

-- the number that a value of a shape is; none if the shape is not that of an unsigned integer
abbrev pub number_in : Shape → List ℕ → Option ℕ
number_in U8 value = Some (slice_index value 0)
number_in U16 value = Some (number_le value)
number_in U32 value = Some (number_le value)
number_in U64 value = Some (number_le value)
number_in Be16 value = Some (number_be value)
number_in Be32 value = Some (number_be value)
number_in Be64 value = Some (number_be value)
number_in _ value = None

-- the same, and none if the value does not have the shape
abbrev pub number_of : Shape → List ℕ → Option ℕ
number_of shape value = if has_shape shape value then number_in shape value else None

-- the shape in the row of a policy whose kind is the number; `Bytes` if there is none
abbrev pub number_at : List Row → ℕ → Option ℕ → Shape
number_at rows policy None = Bytes
number_at rows policy (Some n) = if nat_lt n any_kind then shape_by (row_at rows policy n) else Bytes

-- the shape that a value of this shape chooses by its number; `Bytes` without a value
abbrev pub number_by : List Row → ℕ → Shape → Option (List ℕ) → Shape
number_by rows policy by None = Bytes
number_by rows policy by (Some value) = number_at rows policy (number_of by value)

-- the first attribute of the choosing kind chooses; a number is read by the shape of that kind in the
-- policy of the block
abbrev pub resolved : Scope → ℕ → Shape → Shape
resolved scope policy (Chosen by choices) = choice_by scope.0 choices (first_of by scope.1)
resolved scope policy (ChosenByNumber by choices) =
    number_by scope.0 choices (shape_in scope.0 policy by) (first_of by scope.1)
resolved scope policy shape = shape

-- the shape of a kind in a policy, in a block
abbrev pub shape_among : Scope → ℕ → ℕ → Shape
shape_among scope policy kind = resolved scope policy (shape_in scope.0 policy kind)

-- ---- nests

-- the policy of a nest
abbrev pub nest_of : Shape → Option ℕ
nest_of Flag = None
nest_of U8 = None
nest_of U16 = None
nest_of U32 = None
nest_of U64 = None
nest_of I32 = None
nest_of I64 = None
nest_of Be16 = None
nest_of Be32 = None
nest_of Be64 = None
nest_of BeI32 = None
nest_of (ExactLen size) = None
nest_of Ip = None
nest_of NulStr = None
nest_of Str = None
nest_of (MinLen size) = None
nest_of (Elements size) = None
nest_of (Nested policy) = Some policy
nest_of (HeaderNested size policy) = Some policy
nest_of (Chosen by policy) = None
nest_of (ChosenByNumber by policy) = None
nest_of Bytes = None

-- the size of the header before the attributes of a nest
abbrev pub nest_start : Shape → ℕ
nest_start (HeaderNested size policy) = size
nest_start _ = 0

-- the attributes of a nest
abbrev pub nest_block : Shape → List ℕ → List ℕ
nest_block shape value = drop (nest_start shape) value

abbrev pub by_nest : {T : Type 0} → Option ℕ → (ℕ → T) → T → T
by_nest None nested flat = flat
by_nest (Some policy) nested flat = nested policy

abbrev pub all_shaped : (Attribute → Bool) → Option (List Attribute) → Bool
all_shaped is None = false
all_shaped is (Some all) = list_all is all

-- the value has the shape; in a nest, the attributes have the shapes of its policy, and nests are
-- at most `levels` deep
unfoldable pub is_shaped : ℕ → List Row → Shape → List ℕ → Bool
is_shaped zero rows shape value = has_shape shape value && by_nest (nest_of shape) (λ policy. false) true
is_shaped (suc levels) rows shape value =
    has_shape shape value && by_nest (nest_of shape)
    (λ policy. all_shaped (λ a. is_shaped levels rows
    (shape_among (within rows (nest_block shape value)) policy a.kind) a.value)
    (attributes_in (nest_block shape value))) true

-- attributes of a block have the shapes of a policy
abbrev pub are_shaped : ℕ → Scope → ℕ → List ℕ → Bool
are_shaped levels scope policy bytes =
    all_shaped (λ a. is_shaped levels scope.0 (shape_among scope policy a.kind) a.value) (attributes_in bytes)

abbrev pub is_block_shaped : ℕ → List Row → ℕ → List ℕ → Bool
is_block_shaped levels rows policy block = are_shaped levels (within rows block) policy block

-- the maximum depth of nests
abbrev pub nest_levels : ℕ
nest_levels = 8

-- a value has the shape of its kind in a policy; the policy of a message's own attributes is 0
abbrev pub fits_in : Scope → ℕ → ℕ → List ℕ → Bool
fits_in scope policy kind value = is_shaped nest_levels scope.0 (shape_among scope policy kind) value

abbrev pub fits_kind : Scope → ℕ → List ℕ → Bool
fits_kind scope kind value = is_shaped nest_levels scope.0 (shape_among scope 0 kind) value

-- if the shape is a nest, the attributes in the value have the shapes of its policy
abbrev pub nest_fits : List Row → Shape → List ℕ → Bool
nest_fits rows shape value =
    by_nest (nest_of shape) (λ policy. is_block_shaped nest_levels rows policy (nest_block shape value)) true

abbrev pub has_type : List ℕ → ℕ → Bool
has_type [] t = false
has_type (one ∷ more) t = one == t || has_type more t

-- none is below 5, all have 16 bits, and none occurs twice
abbrev pub are_own : List ℕ → Bool
are_own [] = true
are_own (t ∷ more) = nat_le 5 t && (nat_lt t (2 ^ 16) && (not (has_type more t) && are_own more))

-- a value of its shape is read as itself
abbrev pub keep : Bool → List ℕ → Option (List ℕ)
keep is value = if is then Some value else None

abbrev pub reading_in : Scope → KindReading
reading_in scope kind value = keep (fits_kind scope kind value) value

abbrev pub reading_by : List Row → ValueReading
reading_by rows all = reading_in (rows, all)

kept : (is : Bool) (value text : List ℕ) → keep is value ≡ Some text → value ≡ text
kept true value text gives = cc
kept false value text gives = absurd (cc)

-- what is read by a table is the value itself
pub keeps_by : (rows : List Row) → KeepsValues (reading_by rows)
keeps_by rows all kind value text gives = kept (fits_kind (rows, all) kind value) value text gives

-- ---- rows sorted by policy and kind

-- a policy and a kind precede another pair
abbrev pub key_before : ℕ → ℕ → ℕ → ℕ → Bool
key_before p k q l = nat_lt p q || (p == q && nat_lt k l)

abbrev pub is_before : Row → Row → Bool
is_before a b = key_before a.0 a.1 b.0 b.1

abbrev pub sorted_from : Row → List Row → Bool
sorted_from a [] = true
sorted_from a (b ∷ more) = is_before a b && sorted_from b more

-- every row precedes the next one by its policy, then its kind, so no two are equal
abbrev pub are_sorted : List Row → Bool
are_sorted [] = true
are_sorted (a ∷ more) = sorted_from a more
