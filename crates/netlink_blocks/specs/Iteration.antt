-- What `Attributes` yields.
use Rattle.std.specs.Prelude.{ℕ, ◌≡◌, List, [], Option, Some, None, Result, Ok, Err}
use Rattle.netlink_attributes.specs.Attribute.{Attribute}
use Rattle.netlink_attributes.specs.Walk.{Starts}
use Rattle.netlink_shapes.specs.Errors.{rest_error}
use Rattle.netlink_shapes.specs.Shapes.{Scope, shape_among}
use Rattle.netlink_blocks.specs.Values.{NestHasRows, IsValueOf, value_shape}
use Rattle.netlink_shapes.specs.declared.attribute_error.AttributeError.{AttributeError}
use Rattle.netlink_blocks.specs.declared.value.Value.{Value}

-- one call of `next` at `bytes`; `rest` is what is still unread
abbrev pub YieldsValue : Scope → ℕ → List ℕ → Option (ℕ × Value) → List ℕ → Type 0
YieldsValue scope policy bytes None rest = (bytes ≡ []) × (rest ≡ [])
YieldsValue scope policy bytes (Some item) rest =
    (a : Attribute) × Starts bytes a rest × (item.0 ≡ a.kind) × IsValueOf item.1 a.value
    × (value_shape item.1 ≡ shape_among scope policy a.kind) × NestHasRows scope.0 item.1

-- ---- what `CheckedAttributes` yields

-- one call of `next` at `bytes`, which end at offset `end` of the payload; `rest` is what is still
-- unread. Yields an attribute, and the rest has the error of the whole; that error; or nothing, if
-- there is no error.
abbrev pub YieldsChecked : Scope → ℕ → List ℕ → Option (Result (ℕ × Value) AttributeError) → List ℕ → Type 0
YieldsChecked scope end bytes None rest =
    (rest_error scope end bytes ≡ None) × (bytes ≡ []) × (rest ≡ [])
YieldsChecked scope end bytes (Some (Err error)) rest =
    (rest_error scope end bytes ≡ Some error) × (rest ≡ [])
YieldsChecked scope end bytes (Some (Ok item)) rest =
    (rest_error scope end bytes ≡ rest_error scope end rest) × YieldsValue scope 0 bytes (Some item) rest
