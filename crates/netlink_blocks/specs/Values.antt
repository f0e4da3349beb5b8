-- How a decoded value relates to its bytes.
use Rattle.std.specs.Prelude.{ℕ, ◌≡◌, Bool, true, false, nat_le, List, [], ◌∷◌, ◌++◌, length, ⊤}
use Rattle.netlink_bytes.specs.Numbers.{bytes_be, bytes_le, number_be, number_le, signed, unsigned}
use Rattle.netlink_shapes.specs.Shapes.{Row, has_shape, is_multiple, nul_only_last, nul_terminated, rows_in}
use Rattle.netlink_shapes.specs.declared.shape.Shape.{Shape}
use Rattle.netlink_shapes.specs.declared.shape.Shape.TheVariants as shape
use Rattle.netlink_blocks.specs.declared.value.Value.{Value}
use Rattle.netlink_blocks.specs.declared.value.Value.TheVariants as variant

abbrev pub value_shape : Value → Shape
value_shape variant.Flag = shape.Flag
value_shape (variant.U8 n) = shape.U8
value_shape (variant.U16 n) = shape.U16
value_shape (variant.U32 n) = shape.U32
value_shape (variant.U64 n) = shape.U64
value_shape (variant.I32 n) = shape.I32
value_shape (variant.I64 n) = shape.I64
value_shape (variant.Be16 n) = shape.Be16
value_shape (variant.Be32 n) = shape.Be32
value_shape (variant.Be64 n) = shape.Be64
value_shape (variant.BeI32 n) = shape.BeI32
value_shape (variant.ExactLen b) = shape.ExactLen (length b.now)
value_shape (variant.Ip b) = shape.Ip
value_shape (variant.NulStr b) = shape.NulStr
value_shape (variant.Str b) = shape.Str
value_shape (variant.MinLen size b) = shape.MinLen size
value_shape (variant.Elements size b) = shape.Elements size
value_shape (variant.Nested inner) = shape.Nested inner.policy
value_shape (variant.HeaderNested header inner) = shape.HeaderNested (length header.bytes.now) inner.policy
value_shape (variant.Bytes b) = shape.Bytes

abbrev pub IsValueOf : Value → List ℕ → Type 0
IsValueOf variant.Flag bytes = bytes ≡ []
IsValueOf (variant.U8 n) bytes = bytes ≡ n ∷ []
IsValueOf (variant.U16 n) bytes = n ≡ number_le bytes
IsValueOf (variant.U32 n) bytes = n ≡ number_le bytes
IsValueOf (variant.U64 n) bytes = n ≡ number_le bytes
IsValueOf (variant.I32 n) bytes = n ≡ signed 4 (number_le bytes)
IsValueOf (variant.I64 n) bytes = n ≡ signed 8 (number_le bytes)
IsValueOf (variant.Be16 n) bytes = n ≡ number_be bytes
IsValueOf (variant.Be32 n) bytes = n ≡ number_be bytes
IsValueOf (variant.Be64 n) bytes = n ≡ number_be bytes
IsValueOf (variant.BeI32 n) bytes = n ≡ signed 4 (number_be bytes)
IsValueOf (variant.ExactLen b) bytes = b.now ≡ bytes
IsValueOf (variant.Ip b) bytes = b.now ≡ bytes
IsValueOf (variant.NulStr b) bytes = b.now ≡ bytes
IsValueOf (variant.Str b) bytes = b.now ≡ bytes
IsValueOf (variant.MinLen size b) bytes = b.now ≡ bytes
IsValueOf (variant.Elements size b) bytes = b.now ≡ bytes
IsValueOf (variant.Nested inner) bytes = inner.block.now ≡ bytes
IsValueOf (variant.HeaderNested header inner) bytes = header.bytes.now ++ inner.block.now ≡ bytes
IsValueOf (variant.Bytes b) bytes = b.now ≡ bytes

-- the bytes of a value
abbrev pub value_bytes : Value → List ℕ
value_bytes variant.Flag = []
value_bytes (variant.U8 n) = n ∷ []
value_bytes (variant.U16 n) = bytes_le n 2
value_bytes (variant.U32 n) = bytes_le n 4
value_bytes (variant.U64 n) = bytes_le n 8
value_bytes (variant.I32 n) = bytes_le (unsigned 4 n) 4
value_bytes (variant.I64 n) = bytes_le (unsigned 8 n) 8
value_bytes (variant.Be16 n) = bytes_be n 2
value_bytes (variant.Be32 n) = bytes_be n 4
value_bytes (variant.Be64 n) = bytes_be n 8
value_bytes (variant.BeI32 n) = bytes_be (unsigned 4 n) 4
value_bytes (variant.ExactLen b) = b.now
value_bytes (variant.Ip b) = b.now
value_bytes (variant.NulStr b) = b.now
value_bytes (variant.Str b) = b.now
value_bytes (variant.MinLen size b) = b.now
value_bytes (variant.Elements size b) = b.now
value_bytes (variant.Nested inner) = inner.block.now
value_bytes (variant.HeaderNested header inner) = header.bytes.now ++ inner.block.now
value_bytes (variant.Bytes b) = b.now

-- the bytes of a value, other than a nest, have its shape
abbrev pub is_satisfied : Value → Bool
is_satisfied (variant.Ip b) = has_shape shape.Ip b.now
is_satisfied (variant.NulStr b) = nul_terminated b.now
is_satisfied (variant.Str b) = nul_only_last b.now
is_satisfied (variant.MinLen size b) = nat_le size (length b.now)
is_satisfied (variant.Elements size b) = is_multiple (length b.now) size
is_satisfied (variant.Nested inner) = false
is_satisfied (variant.HeaderNested header inner) = false
is_satisfied _ = true

-- a nest has this table
abbrev pub NestHasRows : List Row → Value → Type 0
NestHasRows rows (variant.Nested inner) = rows_in inner.rows.list.now ≡ rows
NestHasRows rows (variant.HeaderNested header inner) = rows_in inner.rows.list.now ≡ rows
NestHasRows rows _ = ⊤

-- the bytes of a name, and of a nest after a header, are those that it was read from
abbrev pub is_kept : Shape → Bool
is_kept shape.Str = true
is_kept (shape.HeaderNested size policy) = true
is_kept _ = false

pub kept_bytes : (value : Value) (bytes : List ℕ) → is_kept (value_shape value) ≡ true → IsValueOf value bytes
    → value_bytes value ≡ bytes
kept_bytes (variant.Str b) bytes kept is = is
kept_bytes (variant.HeaderNested header inner) bytes kept is = is
kept_bytes variant.Flag bytes kept is = absurd (cc)
kept_bytes (variant.U8 n) bytes kept is = absurd (cc)
kept_bytes (variant.U16 n) bytes kept is = absurd (cc)
kept_bytes (variant.U32 n) bytes kept is = absurd (cc)
kept_bytes (variant.U64 n) bytes kept is = absurd (cc)
kept_bytes (variant.I32 n) bytes kept is = absurd (cc)
kept_bytes (variant.I64 n) bytes kept is = absurd (cc)
kept_bytes (variant.Be16 n) bytes kept is = absurd (cc)
kept_bytes (variant.Be32 n) bytes kept is = absurd (cc)
kept_bytes (variant.Be64 n) bytes kept is = absurd (cc)
kept_bytes (variant.BeI32 n) bytes kept is = absurd (cc)
kept_bytes (variant.ExactLen b) bytes kept is = absurd (cc)
kept_bytes (variant.Ip b) bytes kept is = absurd (cc)
kept_bytes (variant.NulStr b) bytes kept is = absurd (cc)
kept_bytes (variant.MinLen size b) bytes kept is = absurd (cc)
kept_bytes (variant.Elements size b) bytes kept is = absurd (cc)
kept_bytes (variant.Nested inner) bytes kept is = absurd (cc)
kept_bytes (variant.Bytes b) bytes kept is = absurd (cc)
