-- Facts about the first attribute of a kind.
use Rattle.std.specs.Prelude.{ℕ, zero, suc, ◌≡◌, ◌==◌, ◌≤◌, ◌<◌, ◌%◌, not, length, is_none, IfNone, Bool, true, false, List, [], ◌∷◌, Option, Some, None, refl, if◌then◌else◌}
use Rattle.std.specs.List.{list_all}
use Rattle.std.proofs.Common.{ap, arith, sym, ◌∙◌}
use Rattle.std.proofs.lemmas.Bool.{and_parts, eqb-true, leb-true}
use Rattle.netlink_attributes.specs.Attribute.{Attribute}
use Rattle.netlink_attributes.specs.ReadingLaws.{attributes_in-walk}
use Rattle.netlink_attributes.specs.Views.{masked}
use Rattle.netlink_blocks.specs.Finding.{bytes_by, exact_by, first_in, found_in, i32_by, ip_by, least_by, nest_by, str_by, u16_by, u32_by, u64_by, u8_by}
use Rattle.netlink_shapes.specs.ErrorLaws as errors
use Rattle.netlink_shapes.specs.Errors.{nest_error, value_error}
use Rattle.netlink_shapes.specs.Listing.{first_of, listed, listed_all}
use Rattle.netlink_shapes.specs.NestLaws.{kind_has}
use Rattle.netlink_shapes.specs.Shapes.{Row, Scope, any_kind, fits_in, has_shape, is_block_shaped, is_multiple, is_shaped, nest_levels, or_first, resolved, row_at, shape_by, shape_among, within}
use Rattle.netlink_shapes.specs.Fitting.{AreShaped, fits_at}
use Rattle.netlink_shapes.specs.declared.attribute_error.AttributeError.{AttributeError}
use Rattle.netlink_shapes.specs.declared.shape.Shape.{Shape}
use Rattle.netlink_shapes.specs.declared.shape.Shape.TheVariants.{U8, U16, U32, U64, I32, I64, Be16, Be32, Be64, BeI32, ExactLen, MinLen, Elements}

-- ---- in a list

mask_again : (k n : ℕ) → masked k ≡ n → masked n ≡ masked k
mask_again k n is = omega arith

by_kind : (scope : Scope) (policy kind : ℕ) (a : Attribute) (v : List ℕ) (rest : Option (List ℕ))
    (b : Bool) → (masked a.kind == kind) ≡ b → fits_at scope policy a ≡ true
    → (rest ≡ Some v → fits_in scope policy kind v ≡ true) → (if b then Some a.value else rest) ≡ Some v
    → fits_in scope policy kind v ≡ true
by_kind scope policy kind a v rest true same shaped later gives =
    let k = mask_again a.kind kind (eqb-true (masked a.kind) kind same) in
    let w : a.value ≡ v = cc in
    ap (λ (n : ℕ). is_shaped nest_levels scope.0
    (resolved scope policy (shape_by (or_first (row_at scope.0 policy n) (row_at scope.0 policy any_kind)))) v) k
    ∙ ap (is_shaped nest_levels scope.0 (shape_among scope policy a.kind)) (sym w) ∙ shaped
by_kind scope policy kind a v rest false other shaped later gives = later gives

pub first_fits : (scope : Scope) (policy kind : ℕ) (all : List Attribute) (v : List ℕ)
    → list_all (fits_at scope policy) all ≡ true → first_of kind all ≡ Some v → fits_in scope policy kind v ≡ true
first_fits scope policy kind [] v shaped gives = absurd (cc)
first_fits scope policy kind (a ∷ more) v shaped gives =
    let p = and_parts (fits_at scope policy a) (list_all (fits_at scope policy) more) shaped in
    by_kind scope policy kind a v (first_of kind more) (masked a.kind == kind) refl p.0
    (first_fits scope policy kind more v p.1) gives

-- ---- in a block

-- if the walk has no error, the first attribute of a kind in it
pub first_of_block : (scope : Scope) (policy : ℕ) (block : List ℕ) (kind : ℕ) (found : Option (List ℕ))
    → AreShaped scope policy block → first_of kind (listed block) ≡ found → found_in block kind ≡ found
first_of_block scope policy block kind found are is =
    let reads = attributes_in-walk block are.all are.walk in
    ap (first_in kind) reads ∙ ap (first_of kind) (sym (listed_all block are.all reads)) ∙ is

-- it has the shape of its kind
pub first_shaped : (scope : Scope) (policy : ℕ) (block : List ℕ) (kind : ℕ) (v : List ℕ)
    → AreShaped scope policy block → found_in block kind ≡ Some v → fits_in scope policy kind v ≡ true
first_shaped scope policy block kind v are gives =
    first_fits scope policy kind are.all v are.shaped
    (sym (ap (first_in kind) (attributes_in-walk block are.all are.walk)) ∙ gives)

-- ---- a value whose shape is known

-- a value of a kind that has this shape has this size
abbrev pub HasSize : Shape → ℕ → Type 0
HasSize known size = (scope : Scope) (policy kind : ℕ) (value : List ℕ) (shape : Shape)
    → shape ≡ shape_among scope policy kind → shape ≡ known → fits_in scope policy kind value ≡ true → length value ≡ size

known_size : (known : Shape) (size : ℕ) → ((v : List ℕ) → has_shape known v ≡ (length v == size)) → HasSize known size
known_size known size by scope policy kind value shape at is fit =
    eqb-true (length value) size (sym (by value) ∙ ap (λ (s : Shape). has_shape s value) (sym is ∙ at)
    ∙ kind_has scope policy kind value fit)

least_fits : (shape : Shape) (value : List ℕ) → has_shape shape value ≡ true → least_by shape ≤ length value
least_fits (MinLen size) value is = leb-true size (length value) is
least_fits shape value is = omega arith

pub u8_size : HasSize U8 1
u8_size = known_size U8 1 (λ v. refl)

pub u16_size : HasSize U16 2
u16_size = known_size U16 2 (λ v. refl)

pub u32_size : HasSize U32 4
u32_size = known_size U32 4 (λ v. refl)

pub u64_size : HasSize U64 8
u64_size = known_size U64 8 (λ v. refl)

pub i32_size : HasSize I32 4
i32_size = known_size I32 4 (λ v. refl)

pub i64_size : HasSize I64 8
i64_size = known_size I64 8 (λ v. refl)

pub be16_size : HasSize Be16 2
be16_size = known_size Be16 2 (λ v. refl)

pub be32_size : HasSize Be32 4
be32_size = known_size Be32 4 (λ v. refl)

pub be64_size : HasSize Be64 8
be64_size = known_size Be64 8 (λ v. refl)

pub be_i32_size : HasSize BeI32 4
be_i32_size = known_size BeI32 4 (λ v. refl)

-- and a value of a size or of a minimum size has as many bytes
pub exact_size : (scope : Scope) (policy kind size : ℕ) (value : List ℕ) (shape : Shape)
    → shape ≡ shape_among scope policy kind → shape ≡ ExactLen size → fits_in scope policy kind value ≡ true
    → shape_among scope policy kind ≡ ExactLen (length value)
exact_size scope policy kind size value shape at is fit =
    let same : length value ≡ size =
    eqb-true (length value) size (ap (λ (s : Shape). has_shape s value) (sym is ∙ at) ∙ kind_has scope policy kind value fit) in
    sym at ∙ is ∙ ap ExactLen (sym same)

pub least_size : (scope : Scope) (policy kind : ℕ) (value : List ℕ) (shape : Shape)
    → shape ≡ shape_among scope policy kind → fits_in scope policy kind value ≡ true
    → least_by (shape_among scope policy kind) ≤ length value
least_size scope policy kind value shape at fit =
    least_fits (shape_among scope policy kind) value (kind_has scope policy kind value fit)

-- the elements of a list have a size, and no bytes follow them
not_none : (size : ℕ) → not (size == 0) ≡ true → 0 < size
not_none zero is = absurd (cc)
not_none (suc n) is = omega arith

multiple : (scope : Scope) (policy kind size : ℕ) (value : List ℕ) (shape : Shape)
    → shape ≡ shape_among scope policy kind → shape ≡ Elements size → fits_in scope policy kind value ≡ true
    → is_multiple (length value) size ≡ true
multiple scope policy kind size value shape at is fit =
    ap (λ (s : Shape). has_shape s value) (sym is ∙ at) ∙ kind_has scope policy kind value fit

pub element_size : (scope : Scope) (policy kind size : ℕ) (value : List ℕ) (shape : Shape)
    → shape ≡ shape_among scope policy kind → shape ≡ Elements size → fits_in scope policy kind value ≡ true
    → 0 < size
element_size scope policy kind size value shape at is fit =
    not_none size (and_parts (not (size == 0)) _ (multiple scope policy kind size value shape at is fit)).0

pub whole_elements : (scope : Scope) (policy kind size : ℕ) (value : List ℕ) (shape : Shape)
    → shape ≡ shape_among scope policy kind → shape ≡ Elements size → fits_in scope policy kind value ≡ true
    → length value % size ≡ 0
whole_elements scope policy kind size value shape at is fit =
    eqb-true (length value % size) 0
    (and_parts (not (size == 0)) _ (multiple scope policy kind size value shape at is fit)).1

pub nothing_left : (rest : List ℕ) → length rest ≡ 0 → rest ≡ []
nothing_left [] none = refl
nothing_left (b ∷ more) none = absurd (omega (arith, none))

-- ---- a value that is read as attributes

-- attributes without an error have the shapes of the policy
pub nest_checked : (rows : List Row) (policy end : ℕ) (block : List ℕ)
    → nest_error nest_levels rows policy end block ≡ None → is_block_shaped nest_levels rows policy block ≡ true
nest_checked rows policy end block none =
    let scope = within rows block in
    sym (errors.first_shaped (value_error nest_levels scope policy)
    (λ a. is_shaped nest_levels scope.0 (shape_among scope policy a.kind) a.value) policy end (length block) block
    (λ at a. errors.value_shaped nest_levels scope policy at a.kind a.value)) ∙ ap (λ (o : Option AttributeError). is_none o) none

-- if there is no value, what follows from it
pub none_then : {X : Type 0} (r : Option X) {P Q : Type 0} → IfNone r P → (P → Q) → IfNone r Q
none_then None is so = so is
none_then (Some x) is so = is

-- ---- a getter returns nothing if there is no attribute, whatever the shape

pub u8_none : (s : Shape) → u8_by s None ≡ None
u8_none s = grind arith

pub u16_none : (s : Shape) → u16_by s None ≡ None
u16_none s = grind arith

pub u32_none : (s : Shape) → u32_by s None ≡ None
u32_none s = grind arith

pub u64_none : (s : Shape) → u64_by s None ≡ None
u64_none s = grind arith

pub i32_none : (s : Shape) → i32_by s None ≡ None
i32_none s = grind arith

pub ip_none : (s : Shape) → ip_by s None ≡ None
ip_none s = grind arith

pub bytes_none : (s : Shape) → bytes_by s None ≡ None
bytes_none s = grind arith

pub str_none : (s : Shape) → str_by s None ≡ None
str_none s = grind arith

pub exact_none : (s : Shape) → exact_by s None ≡ None
exact_none s = grind arith

pub nest_none : (s : Shape) → nest_by s None ≡ None
nest_none s = grind arith
