-- The text of an attribute and of a block, step by step.
use Rattle.std.specs.Prelude.{ℕ, zero, suc, ◌≡◌, ◌+◌, ◌-◌, ◌<◌, List, ◌++◌, Option, Some, None}
use Rattle.std.proofs.Common.{ap, arith, sym, ◌∙◌}
use Rattle.netlink_shapes.specs.Shapes.{Scope, by_nest, nest_block, nest_of, nest_start, shape_among}
use Rattle.netlink_blocks.specs.Show.{value_line, block_lines, label_text, nest_line, value_lines}
use Rattle.netlink_shapes.specs.declared.shape.Shape.{Shape}

-- ---- blocks

-- an attribute that is not a nest, or is too deep
pub lines_flat : (levels : ℕ) (scope : Scope) (policy depth kind : ℕ) (value : List ℕ)
    (shape : Shape) → shape ≡ shape_among scope policy kind → nest_of shape ≡ None
    → value_lines levels scope policy depth kind value ≡ label_text scope.0 policy depth kind ++ value_line shape value
unfolding value_lines
lines_flat zero scope policy depth kind value shape same flat =
    ap (λ (s : Shape). label_text scope.0 policy depth kind ++ value_line s value) (sym same)
lines_flat (suc levels) scope policy depth kind value shape same flat =
    ap (λ (n : Option ℕ). label_text scope.0 policy depth kind ++ by_nest n
    (λ inner. nest_line (nest_start (shape_among scope policy kind)) value
    ++ block_lines levels scope.0 inner (depth + 1) (nest_block (shape_among scope policy kind) value))
    (value_line (shape_among scope policy kind) value)) (ap nest_of (sym same) ∙ flat)
    ∙ ap (λ (s : Shape). label_text scope.0 policy depth kind ++ value_line s value) (sym same)

pub lines_deep : (levels : ℕ) (scope : Scope) (policy depth kind : ℕ) (value : List ℕ)
    (shape : Shape) → shape ≡ shape_among scope policy kind → levels ≡ 0 → value_lines levels scope policy depth kind value
    ≡ label_text scope.0 policy depth kind ++ value_line shape value
unfolding value_lines
lines_deep zero scope policy depth kind value shape same deep =
    ap (λ (s : Shape). label_text scope.0 policy depth kind ++ value_line s value) (sym same)
lines_deep (suc levels) scope policy depth kind value shape same deep = absurd (omega arith)

pub lines_nest : (levels : ℕ) (scope : Scope) (policy depth kind : ℕ) (value : List ℕ)
    (shape : Shape) (inner : ℕ) → shape ≡ shape_among scope policy kind → nest_of shape ≡ Some inner → 0 < levels
    → value_lines levels scope policy depth kind value ≡ label_text scope.0 policy depth kind
    ++ (nest_line (nest_start shape) value
    ++ block_lines (levels - 1) scope.0 inner (depth + 1) (nest_block shape value))
unfolding value_lines
lines_nest zero scope policy depth kind value shape inner same nest some = absurd (omega arith)
lines_nest (suc levels) scope policy depth kind value shape inner same nest some =
    let e : suc levels - 1 ≡ levels = omega arith in
    ap (λ (s : Shape). label_text scope.0 policy depth kind ++ by_nest (nest_of s)
    (λ inner. nest_line (nest_start s) value
    ++ block_lines levels scope.0 inner (depth + 1) (nest_block s value)) (value_line s value)) (sym same)
    ∙ ap (λ (n : Option ℕ). label_text scope.0 policy depth kind ++ by_nest n
    (λ inner. nest_line (nest_start shape) value
    ++ block_lines levels scope.0 inner (depth + 1) (nest_block shape value)) (value_line shape value)) nest
    ∙ ap (λ (n : ℕ). label_text scope.0 policy depth kind ++ (nest_line (nest_start shape) value
    ++ block_lines n scope.0 inner (depth + 1) (nest_block shape value))) (sym e)
