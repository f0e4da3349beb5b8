-- The attributes of a block after its first.
use Rattle.std.specs.Prelude.{ℕ, ◌≡◌, ◌≢◌, true, List, [], ◌∷◌, Option, Some, None, refl, Ok, Err}
use Rattle.std.specs.List.{list_all}
use Rattle.std.proofs.Common.{ap, sym, subst, ◌∙◌}
use Rattle.std.proofs.Math.Bool.{Bool-set}
use Rattle.std.proofs.Math.Logic.{∥∥₁_elim, ∥∥₁_map}
use Rattle.std.proofs.lemmas.Bool.{and_parts}
use Rattle.netlink_attributes.specs.Attribute.{Attribute}
use Rattle.netlink_bytes.specs.declared.error.DecodeError.{DecodeError}
use Rattle.netlink_attributes.specs.StartLaws.{nothing_starts}
use Rattle.netlink_attributes.specs.Views.{attribute_of}
use Rattle.netlink_attributes.specs.Walk.{Gives, Item, IsFault, Starts, Walk}
use Rattle.netlink_attributes.specs.WalkLaws.{starts_once, walk_once}
use Rattle.netlink_shapes.specs.Shapes.{Scope, is_shaped, nest_levels, shape_among}
use Rattle.netlink_shapes.specs.Fitting.{AreShaped, fits_at}
use Rattle.netlink_shapes.specs.declared.shape.Shape.{Shape}

by_walk : (scope : Scope) (policy : ℕ) (bytes : List ℕ) (a : Attribute) (rest : List ℕ)
    (all : List Attribute) → Starts bytes a rest → Walk bytes all None
    → list_all (fits_at scope policy) all ≡ true → (fits_at scope policy a ≡ true) × AreShaped scope policy rest
by_walk scope policy bytes a rest [] starts walk shaped = absurd (nothing_starts bytes a rest walk starts)
by_walk scope policy bytes a rest (b ∷ more) starts walk shaped =
    let parts = and_parts (fits_at scope policy b) (list_all (fits_at scope policy) more) shaped in
    let same = starts_once bytes b a walk.0 rest walk.1 starts in (
      sym (ap (fits_at scope policy) same.0) ∙ parts.0,
      record {
        all = more;
        walk = subst (λ (x : List ℕ). Walk x more None) same.1 walk.2;
        shaped = parts.1;
      },
    )

-- if the attributes of a block have their shapes, so has the first, and so have the rest
shaped_next : (scope : Scope) (policy : ℕ) (bytes : List ℕ) (a : Attribute) (rest : List ℕ)
    → Starts bytes a rest → AreShaped scope policy bytes → (fits_at scope policy a ≡ true) × AreShaped scope policy rest
shaped_next scope policy bytes a rest starts are =
    by_walk scope policy bytes a rest are.all starts are.walk are.shaped

good : (scope : Scope) (policy : ℕ) (bytes : List ℕ) (error : DecodeError) → bytes ≢ []
    → IsFault bytes error → AreShaped scope policy bytes → ⊥
good scope policy bytes error some malformed are =
    let once = (walk_once bytes are.all [] None (Some error) are.walk (some, malformed)).1 in
    absurd (cc)

-- such a block has no error
pub shaped_good : (scope : Scope) (policy : ℕ) (bytes : List ℕ) (error : DecodeError) → bytes ≢ []
    → IsFault bytes error → ∥ AreShaped scope policy bytes ∥₁ → ⊥
shaped_good scope policy bytes error some malformed shaped =
    ∥∥₁_elim shaped (hlevel) (good scope policy bytes error some malformed)

none_left : (scope : Scope) (policy : ℕ) (rest : List ℕ) → rest ≡ [] → AreShaped scope policy rest
none_left scope policy rest none = record { all = []; walk = none; shaped = refl }

rest_shaped : (scope : Scope) (policy : ℕ) (bytes : List ℕ) (item : Option Item) (rest : List ℕ)
    → Gives bytes item rest → AreShaped scope policy bytes → AreShaped scope policy rest
rest_shaped scope policy bytes None rest gives are = none_left scope policy rest gives.1
rest_shaped scope policy bytes (Some (Err error)) rest gives are = none_left scope policy rest gives.2
rest_shaped scope policy bytes (Some (Ok view)) rest gives are =
    (shaped_next scope policy bytes (attribute_of bytes) rest gives.2 are).1

-- whatever a call of `next` yields, the rest is such a block
pub shaped_rest : (scope : Scope) (policy : ℕ) (bytes : List ℕ) (item : Option Item) (rest : List ℕ)
    → Gives bytes item rest → ∥ AreShaped scope policy bytes ∥₁ → ∥ AreShaped scope policy rest ∥₁
shaped_rest scope policy bytes item rest gives shaped =
    ∥∥₁_map shaped (rest_shaped scope policy bytes item rest gives)

value_fits : (scope : Scope) (policy : ℕ) (bytes : List ℕ) (rest : List ℕ) (kind : ℕ)
    (value : List ℕ) (shape : Shape) → Starts bytes (attribute_of bytes) rest
    → kind ≡ (attribute_of bytes).kind → value ≡ (attribute_of bytes).value
    → shape ≡ shape_among scope policy kind → AreShaped scope policy bytes → is_shaped nest_levels scope.0 shape value ≡ true
value_fits scope policy bytes rest kind value shape starts same is by are =
    let a : Attribute = attribute_of bytes in
    ap (λ (s : Shape). is_shaped nest_levels scope.0 s value) (by ∙ ap (shape_among scope policy) same)
    ∙ ap (is_shaped nest_levels scope.0 (shape_among scope policy a.kind)) is
    ∙ (shaped_next scope policy bytes a rest starts are).0

-- the value that was read has its shape
pub shaped_value : (scope : Scope) (policy : ℕ) (bytes : List ℕ) (rest : List ℕ) (kind : ℕ)
    (value : List ℕ) (shape : Shape) → Starts bytes (attribute_of bytes) rest
    → kind ≡ (attribute_of bytes).kind → value ≡ (attribute_of bytes).value
    → shape ≡ shape_among scope policy kind → ∥ AreShaped scope policy bytes ∥₁ → is_shaped nest_levels scope.0 shape value ≡ true
shaped_value scope policy bytes rest kind value shape starts same is by shaped =
    ∥∥₁_elim shaped (hlevel Bool-set) (value_fits scope policy bytes rest kind value shape starts same is by)
