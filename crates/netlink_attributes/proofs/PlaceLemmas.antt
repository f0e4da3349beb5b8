-- The location of an attribute, found from what is left of the bytes.
use Rattle.std.proofs.Common.{◌≡◌, ℕ, zero, suc, ◌+◌, ◌-◌, ◌<◌, ◌≤◌, ◌⊎◌, List, [], ◌∷◌, length, drop, refl, sym, ap, subst, ◌∙◌, inl, inr, arith, Option, Some, None}
use Rattle.std.specs.Prelude.{slice_get}
use Rattle.netlink_bytes.specs.declared.error.DecodeError.{DecodeError}
use Rattle.netlink_attributes.specs.Attribute.{Attribute, padded_size}
use Rattle.netlink_attributes.specs.Places.{ends_from}
use Rattle.netlink_attributes.specs.Views.{length_field}
use Rattle.netlink_attributes.specs.Walk.{Starts, Walk}
use Rattle.netlink_attributes.specs.StartLaws.{nothing_starts, starts-length_field, starts-rest, starts-length, starts-fault, starts-attribute_of}

-- if no attribute starts, none is left
pub none_left : (rest : List ℕ) (more : List Attribute) (fault : Option DecodeError) (at left : ℕ) → Walk rest more fault
    → ((a : Attribute) (r : List ℕ) → Starts rest a r → ⊥) → slice_get (ends_from at more) left ≡ None
none_left rest [] fault at left walk never = refl
none_left rest (a ∷ more) fault at left walk never = absurd (never a walk.0 walk.1)

-- if nothing is left, the locations do not depend on the offset
same_places : (at other : ℕ) (rest : List ℕ) (more : List Attribute) (fault : Option DecodeError) → Walk rest more fault
    → (at ≡ other) ⊎ (rest ≡ []) → ends_from at more ≡ ends_from other more
same_places at other rest [] fault walk e = refl
same_places at other rest (a ∷ more) fault walk (inl same) = ap (λ j. ends_from j (a ∷ more)) same
same_places at other rest (a ∷ more) fault walk (inr none) = absurd (nothing_starts rest a walk.0 none walk.1)

after_one : (whole : ℕ) (rest next : List ℕ) (a : Attribute) → length rest ≤ whole → Starts rest a next
    → (whole - length rest + padded_size a ≡ whole - length next) ⊎ (next ≡ [])
after_one whole rest next a inside starts =
    let size = starts-length rest a next starts in
    elim starts.gap_size [ inl full ↦ inl (omega arith) | inr short ↦ inr short.1 ]

second : (x : ℕ × ℕ) (xs : List (ℕ × ℕ)) (left : ℕ) → 0 < left → slice_get (x ∷ xs) left ≡ slice_get xs (left - 1)
second x xs zero some = absurd (omega arith)
second x xs (suc n) some = ap (slice_get xs) (let e : n ≡ suc n - 1 = omega arith in e)

-- one attribute further on, the same location is sought with an index that is one less
pub place_step : (whole : ℕ) (rest next : List ℕ) (a : Attribute) (more : List Attribute) (fault : Option DecodeError) (left : ℕ)
    → length rest ≤ whole → Starts rest a next → Walk rest more fault → 0 < left
    → (later : List Attribute) × Walk next later fault
    × (slice_get (ends_from (whole - length rest) more) left ≡ slice_get (ends_from (whole - length next) later) (left - 1))
place_step whole rest next a [] None left inside starts walk some = absurd (nothing_starts rest a next walk starts)
place_step whole rest next a [] (Some fault) left inside starts walk some = absurd (starts-fault rest a next fault starts walk.1)
place_step whole rest next a (b ∷ later) fault left inside starts (then, begin, walk) some =
    let same : b ≡ a = sym (starts-attribute_of rest b then begin) ∙ starts-attribute_of rest a next starts in
    let rests : then ≡ next =
    starts-rest rest b then begin ∙ ap (λ (c : Attribute). drop (padded_size c) rest) same ∙ sym (starts-rest rest a next starts) in (
      later,
      subst (λ (r : List ℕ). Walk r later fault) rests walk,
      second _ _ left some
          ∙ ap (λ xs. slice_get xs (left - 1))
          (same_places _ _ then later fault walk (after_one whole rest then b inside begin)
          ∙ ap (λ (r : List ℕ). ends_from (whole - length r) later) rests),
    )

-- and so is a location that is known to be that one
pub place_next : (whole : ℕ) (rest next : List ℕ) (a : Attribute) (more : List Attribute) (fault : Option DecodeError) (left : ℕ)
    (sought : Option (ℕ × ℕ)) → length rest ≤ whole → Starts rest a next → Walk rest more fault → 0 < left
    → sought ≡ slice_get (ends_from (whole - length rest) more) left
    → (later : List Attribute) × Walk next later fault × (sought ≡ slice_get (ends_from (whole - length next) later) (left - 1))
place_next whole rest next a more fault left sought inside starts walk some is =
    let step = place_step whole rest next a more fault left inside starts walk some in
    (step.0, step.1, is ∙ step.2)

-- the first attribute is the one that is sought
pub place_here : (at : ℕ) (rest next : List ℕ) (a : Attribute) (more : List Attribute) (fault : Option DecodeError) (left : ℕ)
    → Starts rest a next → Walk rest more fault → left ≡ 0 → slice_get (ends_from at more) left ≡ Some (at, at + length_field rest)
place_here at rest next a [] None left starts walk first = absurd (nothing_starts rest a next walk starts)
place_here at rest next a [] (Some fault) left starts walk first = absurd (starts-fault rest a next fault starts walk.1)
place_here at rest next a (b ∷ later) fault left starts walk first =
    ap (slice_get (ends_from at (b ∷ later))) first ∙ ap (λ (j : ℕ). Some (at, at + j)) (sym (starts-length_field rest b walk.0 walk.1))

-- the range of a value, from what is left and from the length field
pub same_place : (whole : ℕ) (n m : List ℕ) (size field : ℕ) → n ≡ m → size ≡ field
    → ◌≡◌ {A = Option (ℕ × ℕ)} (Some (whole - length n + 4, whole - length n + size))
    (Some (whole - length m + 4, whole - length m + field))
same_place whole n m size field same sizes =
    ap (λ (x : List ℕ). Some (whole - length x + 4, whole - length x + size)) same
    ∙ ap (λ (k : ℕ). Some (whole - length m + 4, whole - length m + k)) sizes
