-- The first error of a payload and its offset, which is counted from the start of the payload, also
-- inside nests. Out of memory is not one of these errors.
use Rattle.std.specs.Prelude.{ℕ, zero, suc, ◌+◌, ◌-◌, ◌*◌, ◌/◌, Bool, List, [], ◌∷◌, length, drop, nat_le, nat_lt, Option, Some, None, if◌then◌else◌}
use Rattle.std.specs.Option.{option_map}
use Rattle.netlink_attributes.specs.Attribute.{Attribute, padded_size}
use Rattle.netlink_bytes.specs.declared.error.DecodeError.{DecodeError}
use Rattle.netlink_bytes.specs.declared.error.DecodeError.TheVariants.{NlaBufferTooSmall, NlaLengthMismatch, NlaInvalidLength}
use Rattle.netlink_attributes.specs.Reading.{attributes_in, starts_whole}
use Rattle.netlink_attributes.specs.Views.{attribute_of, length_field, raw_kind}
use Rattle.netlink_shapes.specs.Blocks.{block_fits}
use Rattle.netlink_shapes.specs.Shapes.{Row, Scope, by_nest, has_shape, has_type, nest_block, nest_levels, nest_of, or_first, shape_among, within}
use Rattle.netlink_shapes.specs.Short.{is_short}
use Rattle.netlink_shapes.specs.declared.error.FamilyError.{FamilyError}
use Rattle.netlink_shapes.specs.declared.error.FamilyError.TheVariants.{HeaderShort, InvalidAttribute, TooLong, UnknownType}
use Rattle.netlink_shapes.specs.declared.attribute_error.Reason.{Reason}
use Rattle.netlink_shapes.specs.declared.attribute_error.Reason.TheVariants as reason
use Rattle.netlink_shapes.specs.declared.attribute_error.AttributeError.{AttributeError}
use Rattle.netlink_shapes.specs.declared.shape.Shape.{Shape}
use Rattle.netlink_shapes.specs.declared.shape.Shape.TheVariants.{Flag, U8, U16, U32, U64, I32, I64, Be16, Be32, Be64, BeI32, ExactLen, Ip, NulStr, Str, MinLen, Elements, Nested, HeaderNested, Chosen, ChosenByNumber, Bytes}

abbrev pub error_at : ℕ → ℕ → Reason → AttributeError
error_at policy at why = record { offset = at; policy = policy; reason = why }

-- why bytes do not start with an attribute
abbrev pub walk_reason : List ℕ → Reason
walk_reason bytes =
    if nat_lt (length bytes) 4 then reason.Short (length bytes) else if nat_lt (length bytes) (length_field bytes)
    then reason.Truncated (length_field bytes) (length bytes) else reason.InvalidLength (length_field bytes)

-- the reason for an error of the walk
abbrev pub decode_reason : DecodeError → Reason
decode_reason (NlaBufferTooSmall size least) = reason.Short size
decode_reason (NlaLengthMismatch size said) = reason.Truncated said size
decode_reason (NlaInvalidLength least said) = reason.InvalidLength said
decode_reason _ = reason.Short 0

-- why a value does not have its shape; `Nested` and `Bytes` always have it
abbrev pub reason_of : Shape → ℕ → List ℕ → Reason
reason_of Flag kind value = reason.WrongSize kind 0 (length value)
reason_of U8 kind value = reason.WrongSize kind 1 (length value)
reason_of U16 kind value = reason.WrongSize kind 2 (length value)
reason_of U32 kind value = reason.WrongSize kind 4 (length value)
reason_of U64 kind value = reason.WrongSize kind 8 (length value)
reason_of I32 kind value = reason.WrongSize kind 4 (length value)
reason_of I64 kind value = reason.WrongSize kind 8 (length value)
reason_of Be16 kind value = reason.WrongSize kind 2 (length value)
reason_of Be32 kind value = reason.WrongSize kind 4 (length value)
reason_of Be64 kind value = reason.WrongSize kind 8 (length value)
reason_of BeI32 kind value = reason.WrongSize kind 4 (length value)
reason_of (ExactLen size) kind value = reason.WrongSize kind size (length value)
reason_of Ip kind value = reason.WrongAddressSize kind (length value)
reason_of NulStr kind value = reason.NotNulTerminated kind
reason_of Str kind value = reason.InteriorNul kind
reason_of (MinLen size) kind value = reason.TooSmall kind size (length value)
reason_of (Elements size) kind value = reason.NoMultiple kind size (length value)
reason_of (Nested policy) kind value = reason.TooDeep kind
reason_of (HeaderNested size policy) kind value = reason.TooSmall kind size (length value)
reason_of (Chosen by policy) kind value = reason.WrongSize kind 0 (length value)
reason_of (ChosenByNumber by policy) kind value = reason.WrongSize kind 0 (length value)
reason_of Bytes kind value = reason.WrongSize kind 0 (length value)

-- the error of a value, by the offset and the kind of its attribute
abbrev pub ValueError : Type 0
ValueError = ℕ → ℕ → List ℕ → Option AttributeError

abbrev pub flat_error : ℕ → ℕ → Shape → ℕ → List ℕ → Option AttributeError
flat_error policy at shape kind value =
    if has_shape shape value then None else Some (error_at policy at (reason_of shape kind value))

-- the first error of the attributes in bytes that end at offset `end`; if n bytes are left, the
-- next attribute is at offset `end` - n
unfoldable pub first_error : ValueError → ℕ → ℕ → ℕ → List ℕ → Option AttributeError
first_error values policy end zero [] = None
first_error values policy end zero (b ∷ more) =
    Some (error_at policy (end - length (b ∷ more)) (walk_reason (b ∷ more)))
first_error values policy end (suc most) [] = None
first_error values policy end (suc most) (b ∷ more) =
    if starts_whole (b ∷ more)
    then or_first (values (end - length (b ∷ more)) (raw_kind (b ∷ more)) (attribute_of (b ∷ more)).value)
    (first_error values policy end most (drop (padded_size (attribute_of (b ∷ more))) (b ∷ more)))
    else Some (error_at policy (end - length (b ∷ more)) (walk_reason (b ∷ more)))

-- the error of a value in a table, if nests may be `levels` deep; the attributes of a nest end where
-- its attribute ends
unfoldable pub value_error : ℕ → Scope → ℕ → ValueError
value_error zero scope policy at kind value =
    or_first (flat_error policy at (shape_among scope policy kind) kind value)
    (by_nest (nest_of (shape_among scope policy kind)) (λ inner. Some (error_at policy at (reason.TooDeep kind))) None)
value_error (suc levels) scope policy at kind value =
    or_first (flat_error policy at (shape_among scope policy kind) kind value)
    (by_nest (nest_of (shape_among scope policy kind)) (λ inner. first_error
    (value_error levels (within scope.0 (nest_block (shape_among scope policy kind) value)) inner) inner
    (at + 4 + length value) (length (nest_block (shape_among scope policy kind) value))
    (nest_block (shape_among scope policy kind) value)) None)

-- the first error of attributes of a block that end at offset `end`
abbrev pub error_in : ℕ → Scope → ℕ → ℕ → List ℕ → Option AttributeError
error_in levels scope policy end bytes =
    first_error (value_error levels scope policy) policy end (length bytes) bytes

-- the same for all attributes of a block
abbrev pub nest_error : ℕ → List Row → ℕ → ℕ → List ℕ → Option AttributeError
nest_error levels rows policy end block = error_in levels (within rows block) policy end block

-- the same for a message's attributes, and for the last ones of them
abbrev pub block_error : List Row → ℕ → List ℕ → Option AttributeError
block_error rows end block = nest_error nest_levels rows 0 end block

abbrev pub rest_error : Scope → ℕ → List ℕ → Option AttributeError
rest_error scope end bytes = error_in nest_levels scope 0 end bytes

-- the number of bytes left after an attribute with this length field
abbrev pub left_after : ℕ → ℕ → ℕ
left_after left field = left - (field + 3) / 4 * 4

-- the attributes do not fit in a message
abbrev pub too_long_error : Option (List Attribute) → Option FamilyError
too_long_error None = None
too_long_error (Some all) = if block_fits all then None else Some TooLong

-- the error of a payload with a header of this size, followed by attributes of these rows
abbrev pub payload_error : ℕ → List Row → List ℕ → Option FamilyError
payload_error size rows payload =
    if nat_le size (length payload)
    then or_first (option_map InvalidAttribute (block_error rows (length payload) (drop size payload)))
    (too_long_error (attributes_in (drop size payload))) else Some (HeaderShort size (length payload))

-- the same for a message type that may allow a short payload, which has no error
abbrev pub short_error : Bool → ℕ → List Row → List ℕ → Option FamilyError
short_error allows size rows payload =
    if is_short allows size payload then None else payload_error size rows payload

-- the error of a payload; `is` states whether the message type is known
abbrev pub message_error : Bool → Bool → ℕ → List Row → ℕ → List ℕ → Option FamilyError
message_error is allows size rows t payload =
    if is then short_error allows size rows payload else Some (UnknownType t)

-- the error of a payload in a family with these message types, those of them that allow a short
-- payload, sizes of headers, and rows
abbrev pub family_error : List ℕ → (ℕ → Bool) → (ℕ → ℕ) → (ℕ → List Row) → ℕ → List ℕ → Option FamilyError
family_error types short size rows t payload =
    message_error (has_type types t) (short t) (size t) (rows t) t payload
