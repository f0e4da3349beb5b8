-- Attributes that are read and written one by one.
use Rattle.std.proofs.Common.{◌≡◌, ℕ, List, [], ◌∷◌, ◌++◌, refl, sym, ap, ◌∙◌, Option, Some, None, append-nil, append_assoc}
use Rattle.std.specs.Option.{option_map}
use Rattle.netlink_attributes.specs.Attribute.{Attribute, padded}
use Rattle.netlink_attributes.specs.Block.{canonical_block}
use Rattle.netlink_attributes.specs.Nla.{attribute_with}
use Rattle.netlink_shapes.specs.Blocks.{KindReading, all_normalized, normalized, with_first}

-- two lists appended, if there are two
abbrev joined : Option (List Attribute) → Option (List Attribute) → Option (List Attribute)
joined None more = None
joined (Some xs) None = None
joined (Some xs) (Some ys) = Some (xs ++ ys)

joined-nothing : (o : Option (List Attribute)) → joined (Some []) o ≡ o
joined-nothing None = refl
joined-nothing (Some xs) = refl

first-joined : (first : Option Attribute) (r s : Option (List Attribute)) → with_first first (joined r s) ≡ joined (with_first first r) s
first-joined None r s = refl
first-joined (Some a) None s = refl
first-joined (Some a) (Some xs) None = refl
first-joined (Some a) (Some xs) (Some ys) = refl

normalized-append : (reading : KindReading) (xs ys : List Attribute)
    → all_normalized reading (xs ++ ys) ≡ joined (all_normalized reading xs) (all_normalized reading ys)
unfolding all_normalized
normalized-append reading [] ys = sym (joined-nothing (all_normalized reading ys))
normalized-append reading (x ∷ xs) ys =
    ap (with_first (normalized reading x)) (normalized-append reading xs ys)
    ∙ first-joined (normalized reading x) (all_normalized reading xs) (all_normalized reading ys)

alone : (reading : KindReading) (a : Attribute) (b : Option Attribute) → normalized reading a ≡ b
    → all_normalized reading (a ∷ []) ≡ with_first b (Some [])
unfolding all_normalized
alone reading a b is = ap (λ (x : Option Attribute). with_first x (Some [])) is

-- an attribute that was read is written with its kind and the value that was read
normalized_as : (reading : KindReading) (a : Attribute) (kind : ℕ) (value : List ℕ) → kind ≡ a.kind → reading a.kind a.value ≡ Some value
    → normalized reading a ≡ Some (attribute_with kind value)
normalized_as reading a kind value same is =
    ap (option_map (attribute_with a.kind)) is ∙ ap (λ (k : ℕ). Some (attribute_with k value)) (sym same)

-- appending an attribute that reading does not change
pub normalized_push : (reading : KindReading) (done : List Attribute) (a : Attribute) → all_normalized reading done ≡ Some done
    → reading a.kind a.value ≡ Some a.value → all_normalized reading (done ++ (a ∷ [])) ≡ Some (done ++ (a ∷ []))
normalized_push reading done a are is =
    let one = alone reading a _ (normalized_as reading a a.kind a.value refl is) in
    normalized-append reading done (a ∷ []) ∙ ap (λ (x : Option (List Attribute)). joined x (all_normalized reading (a ∷ []))) are
    ∙ ap (joined (Some done)) one

pub nothing_normalized : (reading : KindReading) → all_normalized reading [] ≡ Some []
unfolding all_normalized
nothing_normalized reading = refl

pub canonical-push : (done : List Attribute) (a : Attribute) → canonical_block (done ++ (a ∷ [])) ≡ canonical_block done ++ padded a
canonical-push [] a = append-nil (padded a)
canonical-push (b ∷ done) a =
    ap (λ (x : List ℕ). padded b ++ x) (canonical-push done a) ∙ sym (append_assoc (padded b) (canonical_block done) (padded a))

-- one more attribute is written
pub more_written : (front out new : List ℕ) (done : List Attribute) (a : Attribute) (kind : ℕ) (value : List ℕ)
    → out ≡ front ++ canonical_block done → kind ≡ a.kind → value ≡ a.value → new ≡ out ++ padded (attribute_with kind value)
    → new ≡ front ++ canonical_block (done ++ (a ∷ []))
more_written front out new done a kind value was same is writes =
    let one : attribute_with kind value ≡ a =
    ap (λ (k : ℕ). attribute_with k value) same ∙ ap (attribute_with a.kind) is in
    writes ∙ ap (λ (x : List ℕ). x ++ padded (attribute_with kind value)) was
    ∙ append_assoc front (canonical_block done) (padded (attribute_with kind value))
    ∙ ap (λ (b : Attribute). front ++ (canonical_block done ++ padded b)) one
    ∙ ap (λ (x : List ℕ). front ++ x) (sym (canonical-push done a))
