-- What a search for a kind has passed.
use Rattle.std.proofs.Common.{◌≡◌, ◌≢◌, ℕ, List, [], ◌∷◌, ◌++◌, length, sym, subst, Option, Some, refl}
use Rattle.std.proofs.lemmas.List.{take_at}
use Rattle.std.proofs.lemmas.List.Elements.{All-append, All-cons, All-nil}
use Rattle.std.specs.Prelude.{IsSomeAnd, slice_get}
use Rattle.netlink_bytes.specs.declared.error.DecodeError.{DecodeError}
use Rattle.netlink_attributes.specs.Attribute.{Attribute}
use Rattle.netlink_attributes.specs.Kinds.{HasNone, IsFirst}
use Rattle.netlink_attributes.specs.Progress.{Passes, passes_walk}
use Rattle.netlink_attributes.specs.Walk.{Starts, Walk}
use Rattle.netlink_attributes.specs.WalkLaws.{walk_once}

-- one more attribute is of another kind
pub none_push : (part : ℕ → ℕ) (done : List Attribute) (a : Attribute) (kind : ℕ) → HasNone part done kind → part a.kind ≢ kind
    → HasNone part (done ++ (a ∷ [])) kind
none_push part done a kind none other =
    All-append (λ (b : Attribute). part b.kind ≢ kind) done (a ∷ []) none
    (All-cons (λ (b : Attribute). part b.kind ≢ kind) a [] other (All-nil (λ (b : Attribute). part b.kind ≢ kind)))

item_at : (done : List Attribute) (a : Attribute) (more : List Attribute) → slice_get (done ++ (a ∷ more)) (length done) ≡ Some a
item_at [] a more = refl
item_at (first ∷ done) a more = item_at done a more

-- the next attribute is the first of its kind
first_in : (part : ℕ → ℕ) (done : List Attribute) (a : Attribute) (more : List Attribute) (kind index : ℕ) → HasNone part done kind
    → part a.kind ≡ kind → length done ≡ index
    → IsFirst part (done ++ (a ∷ more)) kind index
first_in part done a more kind index none is size = subst (IsFirst part (done ++ (a ∷ more)) kind) size (
  subst (λ (o : Option Attribute). IsSomeAnd o (λ b. part b.kind ≡ kind)) (sym (item_at done a more)) is,
  subst (λ (x : List Attribute). HasNone part x kind) (sym (take_at done (a ∷ more) (length done) refl)) none,
)

pub found_first : (part : ℕ → ℕ) (bytes : List ℕ) (done : List Attribute) (middle : List ℕ) (a : Attribute) (rest : List ℕ) (kind index : ℕ)
    → Passes bytes done middle → Starts middle a rest → HasNone part done kind → part a.kind ≡ kind → length done ≡ index
    → (all : List Attribute) (fault : Option DecodeError) → Walk bytes all fault → IsFirst part all kind index
found_first part bytes done middle a rest kind index passes starts none is size all fault walk =
    let whole = passes_walk bytes done middle a rest all fault passes starts walk in
    subst (λ (x : List Attribute). IsFirst part x kind index) (sym whole.1) (first_in part done a whole.0 kind index none is size)

-- all attributes have been passed
pub none_found : (part : ℕ → ℕ) (bytes : List ℕ) (done : List Attribute) (end : Option DecodeError) (kind : ℕ) → Walk bytes done end
    → HasNone part done kind
    → (all : List Attribute) (fault : Option DecodeError) → Walk bytes all fault → HasNone part all kind
none_found part bytes done end kind passed none all fault walk =
    subst (λ (x : List Attribute). HasNone part x kind) (walk_once bytes done all end fault passed walk).0 none
