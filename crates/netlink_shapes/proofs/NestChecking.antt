-- The check of a nest: one value, and the invariant of the loop.
use Rattle.std.proofs.Common.{◌≡◌, ◌≢◌, ◌&&◌, ◌<◌, ℕ, ◌-◌, zero, suc, Bool, true, false, List, [], length, arith, refl, sym, ap, ◌∙◌, Option, Some}
use Rattle.std.specs.Prelude.{is_none}
use Rattle.std.proofs.lemmas.Bool.{and_left, and_right}
use Rattle.netlink_attributes.specs.Attribute.{Attribute}
use Rattle.netlink_bytes.specs.declared.error.DecodeError.{DecodeError}
use Rattle.netlink_attributes.specs.ReadingLaws.{attributes_in-fault, attributes_in-walk}
use Rattle.netlink_attributes.specs.Views.{attribute_of}
use Rattle.netlink_attributes.specs.Walk.{IsFault, Starts}
use Rattle.netlink_shapes.specs.ErrorLaws.{error_step, first_shaped, none_of, value_shaped}
use Rattle.netlink_shapes.specs.Errors.{first_error, value_error}
use Rattle.netlink_shapes.specs.Shapes.{Row, Scope, all_shaped, are_shaped, by_nest, has_shape, is_block_shaped, is_shaped, nest_block, nest_of, shape_among}
use Rattle.netlink_shapes.specs.declared.attribute_error.AttributeError.{AttributeError}
use Rattle.netlink_shapes.specs.declared.shape.Shape.{Shape}

-- ---- one value

pub misshaped : (levels : ℕ) (rows : List Row) (shape : Shape) (value : List ℕ)
    → has_shape shape value ≡ false → is_shaped levels rows shape value ≡ false
unfolding is_shaped
misshaped zero rows shape value has = and_left _ _ has
misshaped (suc levels) rows shape value has = and_left _ _ has

pub too_deep : (levels : ℕ) (rows : List Row) (shape : Shape) (value : List ℕ) (inner : ℕ)
    → nest_of shape ≡ Some inner → levels ≡ 0 → is_shaped levels rows shape value ≡ false
unfolding is_shaped
too_deep zero rows shape value inner nest deep =
    ap (λ (n : Option ℕ). has_shape shape value && by_nest n (λ policy. false) true) nest ∙ and_right _ _ refl
too_deep (suc levels) rows shape value inner nest deep = absurd (omega arith)

pub nest_step : (levels : ℕ) (rows : List Row) (shape : Shape) (value : List ℕ) (inner : ℕ)
    → has_shape shape value ≡ true → nest_of shape ≡ Some inner → 0 < levels
    → is_shaped levels rows shape value ≡ is_block_shaped (levels - 1) rows inner (nest_block shape value)
unfolding is_shaped
nest_step zero rows shape value inner has nest some = absurd (omega arith)
nest_step (suc levels) rows shape value inner has nest some =
    let e : suc levels - 1 ≡ levels = omega arith in
    ap (λ (n : Option ℕ). has_shape shape value
    && by_nest n (λ policy. is_block_shaped levels rows policy (nest_block shape value)) true) nest
    ∙ ap (λ (b : Bool). b && is_block_shaped levels rows inner (nest_block shape value)) has
    ∙ ap (λ (n : ℕ). is_block_shaped n rows inner (nest_block shape value)) (sym e)

-- ---- the loop

abbrev one : ℕ → Scope → ℕ → Attribute → Bool
one levels scope policy a = is_shaped levels scope.0 (shape_among scope policy a.kind) a.value

no_error : (levels : ℕ) (scope : Scope) (policy : ℕ) (bytes : List ℕ)
    → is_none (first_error (value_error levels scope policy) policy 0 (length bytes) bytes) ≡ are_shaped levels scope policy bytes
no_error levels scope policy bytes =
    first_shaped (value_error levels scope policy) (one levels scope policy) policy 0 (length bytes) bytes
    (λ at a. value_shaped levels scope policy at a.kind a.value)

step : (levels : ℕ) (scope : Scope) (policy : ℕ) (bytes : List ℕ) (a : Attribute) (rest : List ℕ) → Starts bytes a rest
    → are_shaped levels scope policy bytes ≡ (one levels scope policy a && are_shaped levels scope policy rest)
step levels scope policy bytes a rest starts =
    let later : Option AttributeError = first_error (value_error levels scope policy) policy 0 (length rest) rest in
    sym (no_error levels scope policy bytes)
    ∙ ap (λ (o : Option AttributeError). is_none o) (error_step (value_error levels scope policy) policy 0 bytes a rest starts)
    ∙ none_of (value_error levels scope policy (0 - length bytes) a.kind a.value) later
    ∙ ap (λ (b : Bool). b && is_none later) (value_shaped levels scope policy (0 - length bytes) a.kind a.value)
    ∙ ap (λ (b : Bool). one levels scope policy a && b) (no_error levels scope policy rest)

-- the next attribute, whose value was checked
pub next_shaped : (levels : ℕ) (scope : Scope) (policy : ℕ) (block bytes rest : List ℕ) (kind : ℕ) (value : List ℕ) (shape : Shape) (is known : Bool)
    → are_shaped levels scope policy block ≡ are_shaped levels scope policy bytes → Starts bytes (attribute_of bytes) rest
    → kind ≡ (attribute_of bytes).kind → value ≡ (attribute_of bytes).value → shape ≡ shape_among scope policy kind
    → is ≡ is_shaped levels scope.0 shape value → is ≡ known
    → are_shaped levels scope policy block ≡ (known && are_shaped levels scope policy rest)
next_shaped levels scope policy block bytes rest kind value shape is known so starts same value_is by tested fit =
    so ∙ step levels scope policy bytes (attribute_of bytes) rest starts
    ∙ ap (λ (b : Bool). b && are_shaped levels scope policy rest)
    (ap (λ (k : ℕ). is_shaped levels scope.0 (shape_among scope policy k) (attribute_of bytes).value) (sym same)
    ∙ ap (λ (v : List ℕ). is_shaped levels scope.0 (shape_among scope policy kind) v) (sym value_is)
    ∙ ap (λ (s : Shape). is_shaped levels scope.0 s value) (sym by) ∙ sym tested ∙ fit)

pub fault_shaped : (levels : ℕ) (scope : Scope) (policy : ℕ) (block bytes : List ℕ) (e : DecodeError)
    → are_shaped levels scope policy block ≡ are_shaped levels scope policy bytes → bytes ≢ [] → IsFault bytes e
    → are_shaped levels scope policy block ≡ false
fault_shaped levels scope policy block bytes e so some is =
    so ∙ ap (all_shaped (one levels scope policy)) (attributes_in-fault bytes [] e (some, is))

pub end_shaped : (levels : ℕ) (scope : Scope) (policy : ℕ) (block bytes : List ℕ)
    → are_shaped levels scope policy block ≡ are_shaped levels scope policy bytes → bytes ≡ []
    → are_shaped levels scope policy block ≡ true
end_shaped levels scope policy block bytes so none =
    so ∙ ap (all_shaped (one levels scope policy)) (attributes_in-walk bytes [] none)
