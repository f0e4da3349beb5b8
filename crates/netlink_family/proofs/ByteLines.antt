-- The lines of bytes, step by step.
use Rattle.std.proofs.Common.{◌≡◌, ℕ, ◌+◌, ◌%◌, ◌<◌, ◌≤◌, List, ◌++◌, drop, take, length, refl, sym, ap, ◌∙◌, arith, append_assoc, Result, Ok, Err, OnOk, Option}
use Rattle.netlink_packet_core.specs.Attribute.{padded_size}
use Rattle.netlink_packet_core.specs.FieldLaws.{length-value}
use Rattle.netlink_packet_core.specs.Numbers.{IsBytes}
use Rattle.netlink_packet_core.specs.StartLaws.{starts_held}
use Rattle.netlink_packet_core.specs.Views.{HoldsAttribute, attribute_of, length_field, raw_kind}
use Rattle.netlink_packet_core.specs.Walk.{Starts}
use Rattle.netlink_shapes.specs.Shapes.{Row, Scope, nest_block, nest_start, shape_among}
use Rattle.netlink_shapes.specs.declared.shape.Shape.{Shape}
use Rattle.netlink_blocks.specs.Show.{nest_line, value_line}
use Rattle.netlink_family.specs.ByteLines.{block_lines_at, flat_line, named_start, nest_start_line, walk_lines}
use Rattle.netlink_family.specs.ByteLinesLaws.{walk_step}

pub ok_then : {T E A B : Type 0} (r : Result T E) → OnOk r A → (A → B) → OnOk r B
ok_then (Ok value) is f = f is
ok_then (Err e) is f = tt

-- the size of an attribute with its padding
pub same_size : (bytes : List ℕ) (size : ℕ) → HoldsAttribute bytes → (length_field bytes ≤ size) × (size < length_field bytes + 4)
    → size % 4 ≡ 0 → padded_size (attribute_of bytes) ≡ size
same_size bytes size holds least multiple =
    let value = length-value bytes holds.most in
    omega (arith, value, holds.least, least)

-- one attribute more
pub step_lines : (line rest : List ℕ → List ℕ) (whole t0 t1 bytes after : List ℕ) (size : ℕ) → IsBytes bytes
    → HoldsAttribute bytes → (length_field bytes ≤ size) × (size < length_field bytes + 4) → size % 4 ≡ 0
    → whole ≡ t0 ++ walk_lines line rest (length bytes) bytes → t1 ≡ t0 ++ line bytes → after ≡ drop size bytes
    → whole ≡ t1 ++ walk_lines line rest (length after) after
step_lines line rest whole t0 t1 bytes after size each holds least multiple so_far added is =
    let starts : Starts bytes (attribute_of bytes) (drop size bytes) =
    starts_held bytes size each holds (omega (arith, least)) (omega (arith, least)) multiple in
    so_far ∙ ap (λ (x : List ℕ). t0 ++ x) (walk_step line rest bytes (attribute_of bytes) (drop size bytes) starts)
    ∙ sym (append_assoc t0 (line bytes) (walk_lines line rest (length (drop size bytes)) (drop size bytes)))
    ∙ ap (λ (t : List ℕ). t ++ walk_lines line rest (length (drop size bytes)) (drop size bytes)) (sym added)
    ∙ ap (λ (b : List ℕ). t1 ++ walk_lines line rest (length b) b) (sym is)

pub flat_is : (fault : Option ℕ) (scope : Scope) (policy depth at a : ℕ) (bytes : List ℕ) (size kind : ℕ) (shape : Shape) (value : List ℕ)
    → a ≡ at → padded_size (attribute_of bytes) ≡ size → kind ≡ raw_kind bytes
    → shape ≡ shape_among scope policy (raw_kind bytes) → value ≡ (attribute_of bytes).value
    → named_start fault scope.0 policy depth a (take size bytes) kind ++ value_line shape value
    ≡ flat_line fault scope policy depth at bytes
flat_is fault scope policy depth at a bytes size kind shape value placed sized named shaped valued =
    rw (placed, sym sized, named, shaped, valued) refl

pub nest_is : (fault : Option ℕ) (scope : Scope) (policy depth at a : ℕ) (bytes : List ℕ) (start kind : ℕ) (shape : Shape) (value : List ℕ)
    → a ≡ at → start ≡ nest_start shape → kind ≡ raw_kind bytes → shape ≡ shape_among scope policy (raw_kind bytes)
    → value ≡ (attribute_of bytes).value
    → named_start fault scope.0 policy depth a (take (4 + start) bytes) kind ++ nest_line start value
    ≡ nest_start_line fault scope.0 policy depth at (shape_among scope policy (raw_kind bytes)) bytes
nest_is fault scope policy depth at a bytes start kind shape value placed begun named shaped valued =
    rw (placed, begun, named, shaped, valued) refl

pub rest_is : (fault : Option ℕ) (levels : ℕ) (rows : List Row) (inner depth at a : ℕ) (value v block : List ℕ) (shape s : Shape)
    → a ≡ at → value ≡ v → shape ≡ s → block ≡ nest_block shape value
    → block_lines_at fault levels rows inner depth (a + 4 + length value) block
    ≡ block_lines_at fault levels rows inner depth (at + 4 + length v) (nest_block s v)
rest_is fault levels rows inner depth at a value v block shape s placed valued shaped is = rw (is, placed, valued, shaped) refl
