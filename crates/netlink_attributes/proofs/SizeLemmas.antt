-- Whether attributes fit in a message, one after another.
use Rattle.std.proofs.Common.{◌≡◌, ℕ, ◌+◌, ◌<◌, ◌≤◌, ◌^◌, List, [], ◌∷◌, ◌++◌, length, drop, refl, suc, ap, sym, subst, ◌∙◌, arith, All, length-append}
use Rattle.std.specs.List.{AllWithin}
use Rattle.std.proofs.lemmas.List.Elements.{All-append, All-map, All-nil, All-cons}
use Rattle.netlink_attributes.specs.Attribute.{Attribute, FitsAttribute, padded, value_max}
use Rattle.netlink_attributes.specs.Block.{canonical_block}
use Rattle.netlink_attributes.specs.BlockLaws.{block_push}
use Rattle.netlink_attributes.specs.Nla.{attribute_with, attributes_of, block_max, AllFit, FitBlock}

abbrev pub of : {T : Type 0} → (T → ℕ) → (T → List ℕ) → T → Attribute
of kind_of value_of nla = attribute_with (kind_of nla) (value_of nla)

-- so far each fits, and they have `size` bytes
pub record FitSoFar {T : Type 0} (kind_of : T → ℕ) (value_of : T → List ℕ) (list : List T) (index size : ℕ) : Type 0 where
  pub each : AllWithin (λ nla. FitsAttribute (of kind_of value_of nla)) list 0 index
  pub counted : size + length (canonical_block (attributes_of kind_of value_of (drop index list)))
      ≡ length (canonical_block (attributes_of kind_of value_of list))
  pub whole : size ≤ block_max

pub each_attribute : {T : Type 0} (kind_of : T → ℕ) (value_of : T → List ℕ) (list : List T)
    → All (λ nla. FitsAttribute (of kind_of value_of nla)) list
    → All FitsAttribute (attributes_of kind_of value_of list)
each_attribute kind_of value_of list each = All-map FitsAttribute (of kind_of value_of) list each

-- attributes that fit have values that fit
pub values_fit : {T : Type 0} (kind_of : T → ℕ) (value_of : T → List ℕ) (list : List T)
    → All FitsAttribute (attributes_of kind_of value_of list) → AllFit value_of list
values_fit kind_of value_of [] each = All-nil (λ nla. length (value_of nla) ≤ value_max)
values_fit kind_of value_of (nla ∷ more) each =
    All-cons (λ nla. length (value_of nla) ≤ value_max) nla more (each 0 (of kind_of value_of nla) (omega arith)).value
    (values_fit kind_of value_of more (λ k d inside. each (suc k) d (omega arith)))

pub attributes-push : {T : Type 0} (kind_of : T → ℕ) (value_of : T → List ℕ) (list : List T) (nla : T)
    → attributes_of kind_of value_of (list ++ (nla ∷ [])) ≡ attributes_of kind_of value_of list ++ (of kind_of value_of nla ∷ [])
attributes-push kind_of value_of [] nla = refl
attributes-push kind_of value_of (first ∷ list) nla =
    ap (λ (x : List Attribute). of kind_of value_of first ∷ x) (attributes-push kind_of value_of list nla)

-- the size of a block with one more attribute
pub length-push : {T : Type 0} (kind_of : T → ℕ) (value_of : T → List ℕ) (list : List T) (nla : T)
    → length (canonical_block (attributes_of kind_of value_of (list ++ (nla ∷ []))))
    ≡ length (canonical_block (attributes_of kind_of value_of list)) + length (padded (of kind_of value_of nla))
length-push kind_of value_of list nla =
    ap (λ (x : List Attribute). length (canonical_block x)) (attributes-push kind_of value_of list nla)
    ∙ ap length (block_push (attributes_of kind_of value_of list) (of kind_of value_of nla))
    ∙ length-append (canonical_block (attributes_of kind_of value_of list)) (padded (of kind_of value_of nla))

-- what holds for the attributes of a list and for one more
pub each_push : {T : Type 0} (kind_of : T → ℕ) (value_of : T → List ℕ) (list : List T) (nla : T)
    → All FitsAttribute (attributes_of kind_of value_of list)
    → kind_of nla < 2 ^ 16 → length (value_of nla) ≤ value_max → All FitsAttribute (attributes_of kind_of value_of (list ++ (nla ∷ [])))
each_push kind_of value_of list nla each kind value =
    let last : All FitsAttribute (of kind_of value_of nla ∷ []) =
    All-cons FitsAttribute (of kind_of value_of nla) [] (record { kind = kind; value = value }) (All-nil FitsAttribute) in
    subst (All FitsAttribute) (sym (attributes-push kind_of value_of list nla))
    (All-append FitsAttribute (attributes_of kind_of value_of list) (of kind_of value_of nla ∷ []) each last)

-- attributes that do not fit with one more
pub too_big : {T : Type 0} (kind_of : T → ℕ) (value_of : T → List ℕ) (list : List T) (nla : T) (size more : ℕ)
    → size ≡ length (canonical_block (attributes_of kind_of value_of list)) → more ≡ length (padded (of kind_of value_of nla))
    → block_max < size + more
    → FitBlock kind_of value_of (list ++ (nla ∷ [])) → ⊥
too_big kind_of value_of list nla size more counted is big fit =
    omega (arith, fit.1, length-push kind_of value_of list nla, counted, is, big)

pub fit_push : {T : Type 0} (kind_of : T → ℕ) (value_of : T → List ℕ) (list : List T) (nla : T) (size more : ℕ)
    → All FitsAttribute (attributes_of kind_of value_of list)
    → size ≡ length (canonical_block (attributes_of kind_of value_of list)) → more ≡ length (padded (of kind_of value_of nla))
    → size + more ≤ block_max
    → kind_of nla < 2 ^ 16 → length (value_of nla) ≤ value_max → FitBlock kind_of value_of (list ++ (nla ∷ []))
fit_push kind_of value_of list nla size more each counted is low kind value = (
  values_fit kind_of value_of (list ++ (nla ∷ [])) (each_push kind_of value_of list nla each kind value),
  omega
      (arith, length-push kind_of value_of list nla, counted, is, low),
)
