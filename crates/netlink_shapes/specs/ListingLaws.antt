-- Laws of the attributes of a block, and of the first one of a kind.
use Rattle.std.specs.Prelude.{ℕ, ◌≡◌, ◌≢◌, ◌==◌, length, Bool, List, [], ◌∷◌, Some, refl, if◌then◌else◌, zero, suc, ◌-◌, ◌≤◌, drop}
use Rattle.std.proofs.Common.{ap, arith, sym, ◌∙◌, length-drop}
use Rattle.std.proofs.lemmas.Bool.{eqb-true, eq-eqb}
use Rattle.netlink_attributes.specs.Attribute.{Attribute, padded_size}
use Rattle.netlink_attributes.specs.Views.{masked, attribute_of}
use Rattle.netlink_shapes.specs.Listing.{first_of, before_error}
use Rattle.netlink_shapes.specs.SortedLaws.{if_not}
use Rattle.netlink_bytes.specs.declared.error.DecodeError.{DecodeError}
use Rattle.netlink_attributes.specs.Reading.{starts_whole}
use Rattle.netlink_attributes.specs.StartLaws.{nothing_starts, starts-attribute_of, starts-length, starts-rest}
use Rattle.netlink_attributes.specs.Walk.{IsFault, Starts}
use Rattle.netlink_attributes.specs.ReadingLaws.{fault-whole, starts-whole}

pub first_here : (kind : ℕ) (a : Attribute) (more : List Attribute) → masked a.kind ≡ kind
    → first_of kind (a ∷ more) ≡ Some a.value
first_here kind a more same =
    ap (λ (b : Bool). if b then Some a.value else first_of kind more) (eq-eqb (masked a.kind) kind same)

pub first_later : (kind : ℕ) (a : Attribute) (more : List Attribute) → masked a.kind ≢ kind
    → first_of kind (a ∷ more) ≡ first_of kind more
first_later kind a more other =
    if_not (masked a.kind == kind) (Some a.value) (first_of kind more)
    (λ e. other (eqb-true (masked a.kind) kind e))

-- ---- every attribute has the shape of its kind

same_fuel : (m n : ℕ) (bytes : List ℕ) → length bytes ≤ m → length bytes ≤ n
    → before_error m bytes ≡ before_error n bytes
unfolding before_error
same_fuel zero zero bytes p q = refl
same_fuel zero (suc n) [] p q = refl
same_fuel zero (suc n) (b ∷ more) p q = absurd (omega arith)
same_fuel (suc m) zero [] p q = refl
same_fuel (suc m) zero (b ∷ more) p q = absurd (omega arith)
same_fuel (suc m) (suc n) [] p q = refl
same_fuel (suc m) (suc n) (b ∷ more) p q =
    let bytes : List ℕ = b ∷ more in
    let a : Attribute = attribute_of bytes in
    let shorter = length-drop (padded_size a) bytes in
    ap (λ (later : List Attribute). if starts_whole bytes then a ∷ later else [])
    (same_fuel m n (drop (padded_size a) bytes) (omega arith) (omega arith))

pub before_step : (bytes : List ℕ) (a : Attribute) (rest : List ℕ) → Starts bytes a rest
    → before_error (length bytes) bytes ≡ a ∷ before_error (length rest) rest
unfolding before_error
before_step [] a rest starts = absurd (nothing_starts [] a rest refl starts)
before_step (b ∷ more) a rest starts =
    let bytes : List ℕ = b ∷ more in
    let size = starts-length bytes a rest starts in
    ap (λ (is : Bool). if is then attribute_of bytes
    ∷ before_error (length more) (drop (padded_size (attribute_of bytes)) bytes)
    else []) (starts-whole bytes a rest starts)
    ∙ ap (λ (x : Attribute). x ∷ before_error (length more) (drop (padded_size x) bytes))
    (starts-attribute_of bytes a rest starts)
    ∙ ap (λ (r : List ℕ). a ∷ before_error (length more) r) (sym (starts-rest bytes a rest starts))
    ∙ ap (λ (later : List Attribute). a ∷ later)
    (same_fuel (length more) (length rest) rest (omega arith) (omega arith))

pub before_malformed : (bytes : List ℕ) (e : DecodeError) → IsFault bytes e → before_error (length bytes) bytes ≡ []
unfolding before_error
before_malformed [] e is = refl
before_malformed (b ∷ more) e is =
    let bytes : List ℕ = b ∷ more in
    ap (λ (w : Bool). if w then attribute_of bytes
    ∷ before_error (length more) (drop (padded_size (attribute_of bytes)) bytes) else []) (fault-whole bytes e is)

pub before_nothing : (bytes : List ℕ) → bytes ≡ [] → before_error (length bytes) bytes ≡ []
unfolding before_error
before_nothing [] none = refl
before_nothing (b ∷ more) none = absurd (cc)

-- ---- attributes
