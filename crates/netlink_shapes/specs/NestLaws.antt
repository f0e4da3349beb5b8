-- Shapes and nests.
use Rattle.std.specs.Prelude.{ℕ, zero, suc, ◌≡◌, ◌&&◌, Bool, true, false, List, [], ◌∷◌, length, take, Option, Some, None, refl}
use Rattle.std.specs.List.{list_all}
use Rattle.std.proofs.Common.{ap, sym, ◌∙◌}
use Rattle.std.proofs.lemmas.Bool.{and_from, and_parts, leb-true}
use Rattle.std.proofs.lemmas.List.{length-take-le}
use Rattle.netlink_attributes.specs.Attribute.{Attribute}
use Rattle.netlink_attributes.specs.Reading.{attributes_in}
use Rattle.netlink_shapes.specs.Shapes.{Row, Scope, all_shaped, by_nest, fits_in, has_shape, is_block_shaped, is_shaped, nest_block, nest_fits, nest_levels, nest_of, shape_among, within}
use Rattle.netlink_shapes.specs.declared.shape.Shape.{Shape}
use Rattle.netlink_shapes.specs.declared.shape.Shape.TheVariants.{HeaderNested}

and_true : (b : Bool) → (b && true) ≡ b
and_true true = refl
and_true false = refl

pub flat_step : (levels : ℕ) (rows : List Row) (shape : Shape) (value : List ℕ)
    → nest_of shape ≡ None → is_shaped levels rows shape value ≡ has_shape shape value
unfolding is_shaped
flat_step zero rows shape value flat =
    ap (λ (n : Option ℕ). has_shape shape value && by_nest n (λ policy. false) true) flat ∙ and_true (has_shape shape value)
flat_step (suc levels) rows shape value flat =
    ap (λ (n : Option ℕ). has_shape shape value
    && by_nest n (λ policy. is_block_shaped levels rows policy (nest_block shape value)) true) flat
    ∙ and_true (has_shape shape value)

-- a value of a shape satisfies the shape's own condition
pub shaped_has : (levels : ℕ) (rows : List Row) (shape : Shape) (value : List ℕ)
    → is_shaped levels rows shape value ≡ true → has_shape shape value ≡ true
unfolding is_shaped
shaped_has zero rows shape value is = (and_parts (has_shape shape value) _ is).0
shaped_has (suc levels) rows shape value is = (and_parts (has_shape shape value) _ is).0

pub kind_has : (scope : Scope) (policy kind : ℕ) (value : List ℕ) → fits_in scope policy kind value ≡ true
    → has_shape (shape_among scope policy kind) value ≡ true
kind_has scope policy kind value is = shaped_has nest_levels scope.0 (shape_among scope policy kind) value is

-- ---- in a nest

by_level : (nest : Option ℕ) (few more : ℕ → Bool) → ((policy : ℕ) → few policy ≡ true → more policy ≡ true)
    → by_nest nest few true ≡ true → by_nest nest more true ≡ true
by_level None few more so is = refl
by_level (Some policy) few more so is = so policy is

each_deeper : (few more : Attribute → Bool) (all : List Attribute)
    → ((a : Attribute) → few a ≡ true → more a ≡ true) → list_all few all ≡ true → list_all more all ≡ true
each_deeper few more [] so is = refl
each_deeper few more (a ∷ rest) so is =
    let parts = and_parts (few a) (list_all few rest) is in
    and_from _ _ (so a parts.0) (each_deeper few more rest so parts.1)

all_deeper : (few more : Attribute → Bool) (found : Option (List Attribute))
    → ((a : Attribute) → few a ≡ true → more a ≡ true) → all_shaped few found ≡ true → all_shaped more found ≡ true
all_deeper few more None so is = absurd (cc)
all_deeper few more (Some all) so is = each_deeper few more all so is

-- a value that has its shape also has it if nests may be one level deeper
deeper : (levels : ℕ) (rows : List Row) (shape : Shape) (value : List ℕ)
    → is_shaped levels rows shape value ≡ true → is_shaped (suc levels) rows shape value ≡ true
unfolding is_shaped
deeper zero rows shape value is =
    let parts = and_parts (has_shape shape value) _ is in
    and_from _ _ parts.0 (by_level (nest_of shape) (λ policy. false) _ (λ policy e. absurd (cc)) parts.1)
deeper (suc levels) rows shape value is =
    let parts = and_parts (has_shape shape value) _ is in
    and_from _ _ parts.0
    (by_level (nest_of shape) (λ policy. is_block_shaped levels rows policy (nest_block shape value)) _
    (λ policy. all_deeper (λ a. is_shaped levels rows (shape_among (within rows (nest_block shape value)) policy a.kind) a.value) _
    (attributes_in (nest_block shape value))
    (λ a. deeper levels rows (shape_among (within rows (nest_block shape value)) policy a.kind) a.value)) parts.1)

block_deeper : (levels : ℕ) (rows : List Row) (policy : ℕ) (value : List ℕ)
    → is_block_shaped levels rows policy value ≡ true → is_block_shaped (suc levels) rows policy value ≡ true
block_deeper levels rows policy value =
    all_deeper (λ a. is_shaped levels rows (shape_among (within rows value) policy a.kind) a.value) _
    (attributes_in value) (λ a. deeper levels rows (shape_among (within rows value) policy a.kind) a.value)

nested_step : (levels : ℕ) (rows : List Row) (shape : Shape) (value : List ℕ)
    → is_shaped (suc levels) rows shape value ≡ true
    → by_nest (nest_of shape) (λ policy. is_block_shaped (suc levels) rows policy (nest_block shape value)) true ≡ true
unfolding is_shaped
nested_step levels rows shape value is =
    by_level (nest_of shape) (λ policy. is_block_shaped levels rows policy (nest_block shape value)) _
    (λ policy. block_deeper levels rows policy (nest_block shape value)) (and_parts (has_shape shape value) _ is).1

-- the attributes of a nest that has its shape have the shapes of its policy
pub shaped_nests : (rows : List Row) (shape : Shape) (value : List ℕ)
    → is_shaped nest_levels rows shape value ≡ true → nest_fits rows shape value ≡ true
shaped_nests rows shape value is = nested_step 7 rows shape value is

pub kind_nests : (scope : Scope) (policy kind : ℕ) (value : List ℕ) → fits_in scope policy kind value ≡ true
    → nest_fits scope.0 (shape_among scope policy kind) value ≡ true
kind_nests scope policy kind value is = shaped_nests scope.0 (shape_among scope policy kind) value is

pub nest_shaped : (scope : Scope) (policy kind : ℕ) (value : List ℕ) (shape : Shape) (inner : ℕ)
    → shape ≡ shape_among scope policy kind → nest_of shape ≡ Some inner → fits_in scope policy kind value ≡ true
    → is_block_shaped nest_levels scope.0 inner (nest_block shape value) ≡ true
nest_shaped scope policy kind value shape inner by is fit =
    sym (ap (λ (n : Option ℕ). by_nest n
    (λ p. is_block_shaped nest_levels scope.0 p (nest_block shape value)) true) is)
    ∙ shaped_nests scope.0 shape value (ap (λ (s : Shape). is_shaped nest_levels scope.0 s value) by ∙ fit)

-- a value contains the whole header of its nest
pub header_inside : (scope : Scope) (policy kind : ℕ) (value : List ℕ) (shape : Shape) (size inner : ℕ)
    → shape ≡ shape_among scope policy kind → shape ≡ HeaderNested size inner → fits_in scope policy kind value ≡ true
    → length (take size value) ≡ size
header_inside scope policy kind value shape size inner by is fit =
    length-take-le size value (leb-true size (length value)
    (ap (λ (s : Shape). has_shape s value) (sym is ∙ by) ∙ kind_has scope policy kind value fit))
