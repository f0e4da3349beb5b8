-- Laws of the lines of bytes, step by step.
use Rattle.std.specs.Prelude.{ℕ, zero, suc, ◌≡◌, ◌+◌, ◌-◌, ◌<◌, ◌≤◌, Bool, List, [], ◌∷◌, ◌++◌, drop, length, Option, Some, None, refl, if◌then◌else◌}
use Rattle.std.proofs.Common.{ap, arith, sym, ◌∙◌, length-drop}
use Rattle.netlink_packet_core.specs.Attribute.{Attribute, padded_size}
use Rattle.netlink_packet_core.specs.DecodeError.{DecodeError}
use Rattle.netlink_packet_core.specs.Reading.{starts_whole}
use Rattle.netlink_packet_core.specs.ReadingLaws.{fault-whole, starts-whole}
use Rattle.netlink_packet_core.specs.StartLaws.{nothing_starts, starts-attribute_of, starts-length, starts-rest}
use Rattle.netlink_packet_core.specs.Views.{attribute_of, raw_kind}
use Rattle.netlink_packet_core.specs.Walk.{IsFault, Starts}
use Rattle.netlink_shapes.specs.Shapes.{Scope, by_nest, nest_block, nest_of, shape_among}
use Rattle.netlink_family.specs.ByteLines.{attribute_lines, block_lines_at, flat_line, nest_start_line, walk_lines}

abbrev pub Lines : Type 0
Lines = List ℕ → List ℕ

same_fuel : (line rest : Lines) (m n : ℕ) (bytes : List ℕ) → length bytes ≤ m → length bytes ≤ n
    → walk_lines line rest m bytes ≡ walk_lines line rest n bytes
unfolding walk_lines
same_fuel line rest zero zero bytes p q = refl
same_fuel line rest zero (suc n) [] p q = refl
same_fuel line rest zero (suc n) (b ∷ more) p q = absurd (omega arith)
same_fuel line rest (suc m) zero [] p q = refl
same_fuel line rest (suc m) zero (b ∷ more) p q = absurd (omega arith)
same_fuel line rest (suc m) (suc n) [] p q = refl
same_fuel line rest (suc m) (suc n) (b ∷ more) p q =
    let bytes : List ℕ = b ∷ more in
    let a : Attribute = attribute_of bytes in
    let shorter = length-drop (padded_size a) bytes in
    ap (λ (later : List ℕ). if starts_whole bytes then line bytes ++ later else rest bytes)
    (same_fuel line rest m n (drop (padded_size a) bytes) (omega arith) (omega arith))

pub walk_step : (line rest : Lines) (bytes : List ℕ) (a : Attribute) (after : List ℕ) → Starts bytes a after
    → walk_lines line rest (length bytes) bytes ≡ line bytes ++ walk_lines line rest (length after) after
unfolding walk_lines
walk_step line rest [] a after starts = absurd (nothing_starts [] a after refl starts)
walk_step line rest (b ∷ more) a after starts =
    let bytes : List ℕ = b ∷ more in
    let size = starts-length bytes a after starts in
    ap (λ (is : Bool). if is then line bytes
    ++ walk_lines line rest (length more) (drop (padded_size (attribute_of bytes)) bytes)
    else rest bytes) (starts-whole bytes a after starts)
    ∙ ap (λ (x : Attribute). line bytes ++ walk_lines line rest (length more) (drop (padded_size x) bytes))
    (starts-attribute_of bytes a after starts)
    ∙ ap (λ (r : List ℕ). line bytes ++ walk_lines line rest (length more) r) (sym (starts-rest bytes a after starts))
    ∙ ap (λ (later : List ℕ). line bytes ++ later)
    (same_fuel line rest (length more) (length after) after (omega arith) (omega arith))

pub walk_fault : (line rest : Lines) (bytes : List ℕ) (e : DecodeError) → IsFault bytes e
    → walk_lines line rest (length bytes) bytes ≡ rest bytes
unfolding walk_lines
walk_fault line rest [] e is = refl
walk_fault line rest (b ∷ more) e is =
    let bytes : List ℕ = b ∷ more in
    ap (λ (w : Bool). if w then line bytes
    ++ walk_lines line rest (length more) (drop (padded_size (attribute_of bytes)) bytes) else rest bytes)
    (fault-whole bytes e is)

-- ---- an attribute, by the shape of its kind

pub lines_deep : (fault : Option ℕ) (levels : ℕ) (scope : Scope) (policy depth end : ℕ) (bytes : List ℕ) → levels ≡ 0
    → attribute_lines fault levels scope policy depth end bytes ≡ flat_line fault scope policy depth (end - length bytes) bytes
unfolding attribute_lines
lines_deep fault zero scope policy depth end bytes deep = refl
lines_deep fault (suc levels) scope policy depth end bytes deep = absurd (omega arith)

pub lines_flat : (fault : Option ℕ) (levels : ℕ) (scope : Scope) (policy depth end : ℕ) (bytes : List ℕ)
    → nest_of (shape_among scope policy (raw_kind bytes)) ≡ None
    → attribute_lines fault levels scope policy depth end bytes ≡ flat_line fault scope policy depth (end - length bytes) bytes
unfolding attribute_lines
lines_flat fault zero scope policy depth end bytes flat = refl
lines_flat fault (suc levels) scope policy depth end bytes flat =
    ap (λ (n : Option ℕ). by_nest n
    (λ inner. nest_start_line fault scope.0 policy depth (end - length bytes) (shape_among scope policy (raw_kind bytes)) bytes
    ++ block_lines_at fault levels scope.0 inner (depth + 1) (end - length bytes + 4 + length (attribute_of bytes).value)
    (nest_block (shape_among scope policy (raw_kind bytes)) (attribute_of bytes).value))
    (flat_line fault scope policy depth (end - length bytes) bytes)) flat

pub lines_nest : (fault : Option ℕ) (levels : ℕ) (scope : Scope) (policy depth end : ℕ) (bytes : List ℕ) (inner : ℕ)
    → nest_of (shape_among scope policy (raw_kind bytes)) ≡ Some inner → 0 < levels
    → attribute_lines fault levels scope policy depth end bytes
    ≡ nest_start_line fault scope.0 policy depth (end - length bytes) (shape_among scope policy (raw_kind bytes)) bytes
    ++ block_lines_at fault (levels - 1) scope.0 inner (depth + 1) (end - length bytes + 4 + length (attribute_of bytes).value)
    (nest_block (shape_among scope policy (raw_kind bytes)) (attribute_of bytes).value)
unfolding attribute_lines
lines_nest fault zero scope policy depth end bytes inner nest some = absurd (omega arith)
lines_nest fault (suc levels) scope policy depth end bytes inner nest some =
    let e : suc levels - 1 ≡ levels = omega arith in
    ap (λ (n : Option ℕ). by_nest n
    (λ inner. nest_start_line fault scope.0 policy depth (end - length bytes) (shape_among scope policy (raw_kind bytes)) bytes
    ++ block_lines_at fault levels scope.0 inner (depth + 1) (end - length bytes + 4 + length (attribute_of bytes).value)
    (nest_block (shape_among scope policy (raw_kind bytes)) (attribute_of bytes).value))
    (flat_line fault scope policy depth (end - length bytes) bytes)) nest
    ∙ ap (λ (n : ℕ). nest_start_line fault scope.0 policy depth (end - length bytes) (shape_among scope policy (raw_kind bytes)) bytes
    ++ block_lines_at fault n scope.0 inner (depth + 1) (end - length bytes + 4 + length (attribute_of bytes).value)
    (nest_block (shape_among scope policy (raw_kind bytes)) (attribute_of bytes).value)) (sym e)
