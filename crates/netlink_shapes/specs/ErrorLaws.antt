-- A block has an error if and only if one of its attributes does not have its shape.
use Rattle.std.specs.Prelude.{ℕ, zero, suc, ◌≡◌, ◌≢◌, ◌+◌, ◌-◌, ◌<◌, ◌≤◌, Bool, true, false, ◌&&◌, List, [], ◌∷◌, length, drop, nat_lt, is_none, Option, Some, None, refl, if◌then◌else◌}
use Rattle.std.specs.List.{list_all}
use Rattle.std.specs.Option.{option_map}
use Rattle.std.proofs.Common.{ap, arith, sym, ◌∙◌, length-drop}
use Rattle.std.proofs.lemmas.Bool.{and_right, le-ltb, lt-ltb}
use Rattle.netlink_attributes.specs.Attribute.{Attribute, padded_size}
use Rattle.netlink_bytes.specs.declared.error.DecodeError.{DecodeError}
use Rattle.netlink_bytes.specs.declared.error.DecodeError.TheVariants.{NlaBufferTooSmall, NlaLengthMismatch, NlaInvalidLength}
use Rattle.netlink_attributes.specs.Reading.{attributes_in, attributes_within, starts_whole}
use Rattle.netlink_attributes.specs.ReadingLaws.{fault-whole, starts-whole}
use Rattle.netlink_attributes.specs.StartLaws.{nothing_starts, starts-attribute_of, starts-length, starts-length_field, starts-rest}
use Rattle.netlink_attributes.specs.Views.{attribute_of, length_field, raw_kind}
use Rattle.netlink_attributes.specs.Walk.{IsFault, Starts}
use Rattle.netlink_shapes.specs.Blocks.{all_normalized, normalized, with_first}
use Rattle.netlink_shapes.specs.Errors.{ValueError, block_error, reason_of, decode_reason, walk_reason, error_at, nest_error, rest_error, first_error, flat_error, left_after, value_error}
use Rattle.netlink_shapes.specs.Shapes.{Row, Scope, all_shaped, by_nest, fits_kind, has_shape, is_block_shaped, is_shaped, nest_block, nest_levels, nest_of, or_first, reading_in, shape_among, within}
use Rattle.netlink_shapes.specs.declared.attribute_error.Reason.{Reason}
use Rattle.netlink_shapes.specs.declared.attribute_error.Reason.TheVariants.{TooDeep}
use Rattle.netlink_shapes.specs.declared.attribute_error.AttributeError.{AttributeError}
use Rattle.netlink_shapes.specs.declared.shape.Shape.{Shape}

-- ---- one attribute

walk_reason_is : (bytes : List ℕ) (e : DecodeError) → IsFault bytes e → walk_reason bytes ≡ decode_reason e
walk_reason_is bytes (NlaBufferTooSmall size least) is =
    let short : nat_lt (length bytes) 4 ≡ true = lt-ltb _ _ is.0 in
    let size_is = is.1 in
    let least_is = is.2 in
    rw short cc
walk_reason_is bytes (NlaLengthMismatch size said) is =
    let long : nat_lt (length bytes) 4 ≡ false = le-ltb _ _ is.0 in
    let cut : nat_lt (length bytes) (length_field bytes) ≡ true = lt-ltb _ _ is.1 in
    let size_is = is.2 in
    let decoded_text_is = is.3 in
    rw (long, cut) cc
walk_reason_is bytes (NlaInvalidLength least said) is =
    let long : nat_lt (length bytes) 4 ≡ false = le-ltb _ _ is.0 in
    let low = is.1 in
    let header = is.0 in
    let whole : nat_lt (length bytes) (length_field bytes) ≡ false = le-ltb _ _ (omega arith) in
    let least_is = is.2 in
    let decoded_text_is = is.3 in
    rw (long, whole) cc
walk_reason_is bytes _ is = absurd is

-- ---- one step of a walk

same_fuel : (values : ValueError) (policy end m n : ℕ) (bytes : List ℕ) → length bytes ≤ m → length bytes ≤ n
    → first_error values policy end m bytes ≡ first_error values policy end n bytes
unfolding first_error
same_fuel values policy end zero zero bytes p q = refl
same_fuel values policy end zero (suc n) [] p q = refl
same_fuel values policy end zero (suc n) (b ∷ more) p q = absurd (omega arith)
same_fuel values policy end (suc m) zero [] p q = refl
same_fuel values policy end (suc m) zero (b ∷ more) p q = absurd (omega arith)
same_fuel values policy end (suc m) (suc n) [] p q = refl
same_fuel values policy end (suc m) (suc n) (b ∷ more) p q =
    let bytes : List ℕ = b ∷ more in
    let a : Attribute = attribute_of bytes in
    let shorter = length-drop (padded_size a) bytes in
    ap (λ (later : Option AttributeError). if starts_whole bytes
    then or_first (values (end - length bytes) (raw_kind bytes) a.value) later
    else Some (error_at policy (end - length bytes) (walk_reason bytes)))
    (same_fuel values policy end m n (drop (padded_size a) bytes) (omega arith) (omega arith))

-- if bytes start with an attribute, their error is its error, or else that of the rest
pub error_step : (values : ValueError) (policy end : ℕ) (bytes : List ℕ) (a : Attribute)
    (rest : List ℕ) → Starts bytes a rest → first_error values policy end (length bytes) bytes
    ≡ or_first (values (end - length bytes) a.kind a.value) (first_error values policy end (length rest) rest)
unfolding first_error
error_step values policy end [] a rest starts = absurd (nothing_starts [] a rest refl starts)
error_step values policy end (b ∷ more) a rest starts =
    let bytes : List ℕ = b ∷ more in
    let whole = starts-whole bytes a rest starts in
    let same = starts-attribute_of bytes a rest starts in
    let size = starts-length bytes a rest starts in
    ap (λ (is : Bool). if is then or_first (values (end - length bytes) (raw_kind bytes) (attribute_of bytes).value)
    (first_error values policy end (length more) (drop (padded_size (attribute_of bytes)) bytes))
    else Some (error_at policy (end - length bytes) (walk_reason bytes))) whole
    ∙ ap (λ (x : Attribute). or_first (values (end - length bytes) x.kind x.value)
    (first_error values policy end (length more) (drop (padded_size x) bytes))) same
    ∙ ap (λ (r : List ℕ). or_first (values (end - length bytes) a.kind a.value)
    (first_error values policy end (length more) r)) (sym (starts-rest bytes a rest starts))
    ∙ ap (or_first (values (end - length bytes) a.kind a.value))
    (same_fuel values policy end (length more) (length rest) rest (omega arith) (omega arith))

-- if they start with none, the error is that of the walk
pub error_malformed : (values : ValueError) (policy end : ℕ) (bytes : List ℕ) (e : DecodeError)
    → bytes ≢ [] → IsFault bytes e → first_error values policy end (length bytes) bytes
    ≡ Some (error_at policy (end - length bytes) (decode_reason e))
unfolding first_error
error_malformed values policy end [] e some is = absurd (some refl)
error_malformed values policy end (b ∷ more) e some is =
    let bytes : List ℕ = b ∷ more in
    ap (λ (w : Bool). if w then or_first (values (end - length bytes) (raw_kind bytes) (attribute_of bytes).value)
    (first_error values policy end (length more) (drop (padded_size (attribute_of bytes)) bytes))
    else Some (error_at policy (end - length bytes) (walk_reason bytes))) (fault-whole bytes e is)
    ∙ ap (λ (why : Reason). Some (error_at policy (end - length bytes) why)) (walk_reason_is bytes e is)

pub error_nothing : (values : ValueError) (policy end : ℕ) (bytes : List ℕ) → bytes ≡ []
    → first_error values policy end (length bytes) bytes ≡ None
unfolding first_error
error_nothing values policy end [] none = refl
error_nothing values policy end (b ∷ more) none = absurd (cc)

-- the number of bytes left after an attribute
pub left_after_start : (bytes : List ℕ) (a : Attribute) (rest : List ℕ) → Starts bytes a rest
    → left_after (length bytes) (length_field bytes) ≡ length rest
left_after_start bytes a rest starts =
    let field = starts-length_field bytes a rest starts in
    let size = length-drop (padded_size a) bytes in
    let same = ap length (starts-rest bytes a rest starts) in
    omega arith

-- ---- one value

-- a value has its own error, or else that of its nest; `nest` is the policy of that
value_step : (levels : ℕ) (scope : Scope) (policy at kind : ℕ) (value : List ℕ) (shape : Shape) (nest : Option ℕ)
    → shape ≡ shape_among scope policy kind → nest_of shape ≡ nest → value_error (suc levels) scope policy at kind value
    ≡ or_first (flat_error policy at shape kind value) (by_nest nest
    (λ inner. nest_error levels scope.0 inner (at + 4 + length value) (nest_block shape value)) None)
unfolding value_error
value_step levels scope policy at kind value shape nest same is =
    ap (λ (s : Shape). or_first (flat_error policy at s kind value) (by_nest (nest_of s)
    (λ inner. nest_error levels scope.0 inner (at + 4 + length value) (nest_block s value)) None)) (sym same)
    ∙ ap (λ (n : Option ℕ). or_first (flat_error policy at shape kind value) (by_nest n
    (λ inner. nest_error levels scope.0 inner (at + 4 + length value) (nest_block shape value)) None)) is

deep_step : (scope : Scope) (policy at kind : ℕ) (value : List ℕ) (shape : Shape) (nest : Option ℕ)
    → shape ≡ shape_among scope policy kind → nest_of shape ≡ nest → value_error 0 scope policy at kind value
    ≡ or_first (flat_error policy at shape kind value)
    (by_nest nest (λ inner. Some (error_at policy at (TooDeep kind))) None)
unfolding value_error
deep_step scope policy at kind value shape nest same is =
    ap (λ (s : Shape). or_first (flat_error policy at s kind value)
    (by_nest (nest_of s) (λ inner. Some (error_at policy at (TooDeep kind))) None)) (sym same)
    ∙ ap (λ (n : Option ℕ). or_first (flat_error policy at shape kind value)
    (by_nest n (λ inner. Some (error_at policy at (TooDeep kind))) None)) is

flat_has : (policy at : ℕ) (shape : Shape) (kind : ℕ) (value : List ℕ) (is : Bool) (later : Option AttributeError)
    → has_shape shape value ≡ is → or_first (flat_error policy at shape kind value) later
    ≡ (if is then later else Some (error_at policy at (reason_of shape kind value)))
flat_has policy at shape kind value true later has =
    ap (λ (b : Bool). or_first (if b then None else Some (error_at policy at (reason_of shape kind value))) later) has
flat_has policy at shape kind value false later has =
    ap (λ (b : Bool). or_first (if b then None else Some (error_at policy at (reason_of shape kind value))) later) has

-- a value without its shape
pub value_other : (levels : ℕ) (scope : Scope) (policy at kind : ℕ) (value : List ℕ) (shape : Shape)
    → shape ≡ shape_among scope policy kind → has_shape shape value ≡ false
    → value_error levels scope policy at kind value ≡ Some (error_at policy at (reason_of shape kind value))
value_other zero scope policy at kind value shape same has =
    deep_step scope policy at kind value shape (nest_of shape) same refl ∙ flat_has policy at shape kind value false _ has
value_other (suc levels) scope policy at kind value shape same has =
    value_step levels scope policy at kind value shape (nest_of shape) same refl
    ∙ flat_has policy at shape kind value false _ has

-- a value that is not a nest
pub value_flat : (levels : ℕ) (scope : Scope) (policy at kind : ℕ) (value : List ℕ) (shape : Shape)
    → shape ≡ shape_among scope policy kind → nest_of shape ≡ None → has_shape shape value ≡ true
    → value_error levels scope policy at kind value ≡ None
value_flat zero scope policy at kind value shape same flat has =
    deep_step scope policy at kind value shape None same flat ∙ flat_has policy at shape kind value true None has
value_flat (suc levels) scope policy at kind value shape same flat has =
    value_step levels scope policy at kind value shape None same flat ∙ flat_has policy at shape kind value true None has

-- a nest that is too deep
pub value_deep : (levels : ℕ) (scope : Scope) (policy at kind : ℕ) (value : List ℕ)
    (shape : Shape) (inner : ℕ) → shape ≡ shape_among scope policy kind → nest_of shape ≡ Some inner
    → has_shape shape value ≡ true → levels ≡ 0
    → value_error levels scope policy at kind value ≡ Some (error_at policy at (TooDeep kind))
value_deep zero scope policy at kind value shape inner same nest has deep =
    deep_step scope policy at kind value shape (Some inner) same nest ∙ flat_has policy at shape kind value true _ has
value_deep (suc levels) scope policy at kind value shape inner same nest has deep = absurd (omega arith)

-- a nest
pub value_nest : (levels : ℕ) (scope : Scope) (policy at kind : ℕ) (value : List ℕ)
    (shape : Shape) (inner : ℕ) → shape ≡ shape_among scope policy kind → nest_of shape ≡ Some inner
    → has_shape shape value ≡ true → 0 < levels → value_error levels scope policy at kind value
    ≡ nest_error (levels - 1) scope.0 inner (at + 4 + length value) (nest_block shape value)
value_nest zero scope policy at kind value shape inner same nest has some = absurd (omega arith)
value_nest (suc levels) scope policy at kind value shape inner same nest has some =
    let e : suc levels - 1 ≡ levels = omega arith in
    value_step levels scope policy at kind value shape (Some inner) same nest
    ∙ flat_has policy at shape kind value true _ has
    ∙ ap (λ (n : ℕ). nest_error n scope.0 inner (at + 4 + length value) (nest_block shape value)) (sym e)

-- ---- attributes that have their shapes have no error

pub none_of : {T : Type 0} (first later : Option T)
    → is_none (or_first first later) ≡ (is_none first && is_none later)
none_of None later = refl
none_of (Some first) later = refl

all_first : (is : Attribute → Bool) (a : Attribute) (rest : Option (List Attribute))
    → all_shaped is (option_map (λ all. a ∷ all) rest) ≡ (is a && all_shaped is rest)
all_first is a (Some all) = refl
all_first is a None = sym (and_right (is a) false refl)

by_whole : (whole : Bool) (is : Attribute → Bool) (a : Attribute) (first later : Option AttributeError)
    (rest : Option (List Attribute)) (malformed : AttributeError) → is_none first ≡ is a
    → is_none later ≡ all_shaped is rest → is_none (if whole then or_first first later else Some malformed)
    ≡ all_shaped is (if whole then option_map (λ all. a ∷ all) rest else None)
by_whole true is a first later rest malformed one more =
    none_of first later ∙ ap (λ (x : Bool). x && is_none later) one
    ∙ ap (λ (x : Bool). is a && x) more ∙ sym (all_first is a rest)
by_whole false is a first later rest malformed one more = refl

pub first_shaped : (values : ValueError) (is : Attribute → Bool) (policy end most : ℕ) (bytes : List ℕ)
    → ((at : ℕ) (a : Attribute) → is_none (values at a.kind a.value) ≡ is a)
    → is_none (first_error values policy end most bytes) ≡ all_shaped is (attributes_within most bytes)
unfolding first_error attributes_within
first_shaped values is policy end zero [] each = refl
first_shaped values is policy end zero (b ∷ more) each = refl
first_shaped values is policy end (suc most) [] each = refl
first_shaped values is policy end (suc most) (b ∷ more) each =
    let bytes : List ℕ = b ∷ more in
    let a : Attribute = attribute_of bytes in
    by_whole (starts_whole bytes) is a (values (end - length bytes) a.kind a.value)
    (first_error values policy end most (drop (padded_size a) bytes))
    (attributes_within most (drop (padded_size a) bytes)) _ (each (end - length bytes) a)
    (first_shaped values is policy end most (drop (padded_size a) bytes) each)

by_cases : (nest : Option ℕ) (f : ℕ → Option AttributeError) (g : ℕ → Bool)
    → ((policy : ℕ) → is_none (f policy) ≡ g policy) → is_none (by_nest nest f None) ≡ by_nest nest g true
by_cases None f g inner = refl
by_cases (Some policy) f g inner = inner policy

flat_none : (has : Bool) (error : AttributeError) → is_none (if has then None else Some error) ≡ has
flat_none true error = refl
flat_none false error = refl

pub value_shaped : (levels : ℕ) (scope : Scope) (policy at kind : ℕ) (value : List ℕ)
    → is_none (value_error levels scope policy at kind value) ≡ is_shaped levels scope.0 (shape_among scope policy kind) value
unfolding value_error is_shaped
value_shaped zero scope policy at kind value =
    none_of (flat_error policy at (shape_among scope policy kind) kind value) _
    ∙ ap (λ (b : Bool). b && is_none (by_nest (nest_of (shape_among scope policy kind))
    (λ inner. Some (error_at policy at (TooDeep kind))) None))
    (flat_none (has_shape (shape_among scope policy kind) value) _)
    ∙ ap (λ (b : Bool). has_shape (shape_among scope policy kind) value && b)
    (by_cases (nest_of (shape_among scope policy kind)) _ (λ inner. false) (λ inner. refl))
value_shaped (suc levels) scope policy at kind value =
    let block : List ℕ = nest_block (shape_among scope policy kind) value in
    none_of (flat_error policy at (shape_among scope policy kind) kind value) _
    ∙ ap (λ (b : Bool). b && is_none (by_nest (nest_of (shape_among scope policy kind))
    (λ inner. nest_error levels scope.0 inner (at + 4 + length value) block) None))
    (flat_none (has_shape (shape_among scope policy kind) value) _)
    ∙ ap (λ (b : Bool). has_shape (shape_among scope policy kind) value && b)
    (by_cases (nest_of (shape_among scope policy kind)) _
    (λ inner. is_block_shaped levels scope.0 inner block)
    (λ inner. first_shaped (value_error levels (within scope.0 block) inner)
    (λ a. is_shaped levels scope.0 (shape_among (within scope.0 block) inner a.kind) a.value) inner
    (at + 4 + length value) (length block) block
    (λ place a. value_shaped levels (within scope.0 block) inner place a.kind a.value)))

abbrev fits : Scope → Attribute → Bool
fits scope a = fits_kind scope a.kind a.value

pub rest_shaped : (scope : Scope) (end : ℕ) (bytes : List ℕ)
    → is_none (rest_error scope end bytes) ≡ all_shaped (fits scope) (attributes_in bytes)
rest_shaped scope end bytes =
    first_shaped (value_error nest_levels scope 0) (fits scope) 0 end (length bytes) bytes
    (λ at a. value_shaped nest_levels scope 0 at a.kind a.value)

pub block_shaped : (rows : List Row) (end : ℕ) (block : List ℕ)
    → is_none (block_error rows end block) ≡ all_shaped (fits (within rows block)) (attributes_in block)
block_shaped rows end block = rest_shaped (within rows block) end block

-- ---- and a payload without an error is read

by_kept : (scope : Scope) (a : Attribute) (rest : Option (List Attribute)) (more : List Attribute)
    (is later : Bool) → fits scope a ≡ is → rest ≡ (if later then Some more else None)
    → with_first (normalized (reading_in scope) a) rest ≡ (if is && later then Some (a ∷ more) else None)
by_kept scope a rest more true true one all = rw (one, all) refl
by_kept scope a rest more true false one all = rw (one, all) refl
by_kept scope a rest more false later one all = rw one refl

pub normalized_by_rows : (scope : Scope) (all : List Attribute)
    → all_normalized (reading_in scope) all ≡ (if list_all (fits scope) all then Some all else None)
unfolding all_normalized
normalized_by_rows scope [] = refl
normalized_by_rows scope (a ∷ more) =
    by_kept scope a (all_normalized (reading_in scope) more) more (fits scope a)
    (list_all (fits scope) more) refl (normalized_by_rows scope more)
