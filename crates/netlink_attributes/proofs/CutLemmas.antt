-- What is left of a walk if its bytes are truncated.
use Rattle.std.proofs.Common.{◌≡◌, ◌≢◌, ℕ, zero, suc, Bool, false, cond, ltb, ◌+◌, ◌-◌, ◌<◌, ◌≤◌, ◌⊎◌, List, [], ◌∷◌, ◌++◌, length, take, drop, refl, ap, sym, subst, ◌∙◌, inl, inr, arith, Option, Some, None, append-nil}
use Rattle.std.proofs.lemmas.Bool.{cases_lt, lt-ltb, le-ltb, le-leb, lt-leb}
use Rattle.std.proofs.lemmas.List.{length-take-le, take-take, drop-drop, take-append-le}
use Rattle.std.proofs.Math.Seq.{take-append-add, take-nil}
use Rattle.std.specs.Prelude.{slice_get}
use Rattle.netlink_bytes.specs.Numbers.{number_le}
use Rattle.netlink_bytes.specs.declared.error.DecodeError.{DecodeError}
use Rattle.netlink_bytes.specs.declared.error.DecodeError.TheVariants.{NlaBufferTooSmall, NlaLengthMismatch, NlaInvalidLength}
use Rattle.netlink_attributes.specs.Attribute.{Attribute, attribute_bytes, padding, padded_size}
use Rattle.netlink_attributes.specs.Cuts.{kept_from, kept_by, fault_start_from, IsCutAt, fault_of, cut_fault}
use Rattle.netlink_attributes.specs.Places.{ends_from}
use Rattle.netlink_attributes.specs.Sizes.{length-attribute_bytes}
use Rattle.netlink_attributes.specs.Views.{length_field}
use Rattle.netlink_attributes.specs.Walk.{Walk, Starts, IsFault}
use Rattle.netlink_attributes.specs.StartLaws.{starts-length_field, starts-length, starts-rest}
use Rattle.netlink_attributes.specs.WalkLaws.{walk_once}

-- ---- lists

-- the first `size` bytes of a front and what follows it, if they include the front
take_after : (front rest : List ℕ) (k size : ℕ) → size ≡ length front + k → take size (front ++ rest) ≡ front ++ take k rest
take_after front rest k size is = ap (λ (n : ℕ). take n (front ++ rest)) is ∙ take-append-add front rest k

-- ---- an attribute that ends at or before the cut

-- the gap and the rest of an attribute, truncated
gap_cut : (a : Attribute) (gap rest : List ℕ) (k : ℕ)
    → (length gap ≡ padding (length a.value)) ⊎ ((length gap < padding (length a.value)) × (rest ≡ []))
    → (new : List ℕ) × (take k (gap ++ rest) ≡ new ++ take (k - padding (length a.value)) rest)
    × ((length new ≡ padding (length a.value))
    ⊎ ((length new < padding (length a.value)) × (take (k - padding (length a.value)) rest ≡ [])))
gap_cut a gap rest k size =
    let missing : ℕ = padding (length a.value) in
    elim (cases_lt k (length gap)) [
      | inl inside ↦
          let none : take {A = ℕ} (k - missing) rest ≡ [] =
          ap (λ (n : ℕ). take n rest)
          (let e : k - missing ≡ 0 = elim size [ inl full ↦ omega arith | inr short ↦ omega (arith, short.0) ] in e) in
          let taken = length-take-le k gap (omega arith) in (
            take k gap,
            take-append-le k gap rest (omega arith) ∙ sym (append-nil (take k gap)) ∙ ap (λ (x : List ℕ). take k gap ++ x) (sym none),
            inr (elim size [ inl full ↦ omega arith | inr short ↦ omega (arith, short.0) ], none),
          )
      | inr past ↦ elim size [
        | inl full ↦ (gap, take_after gap rest (k - missing) k (omega arith), inl full)
        | inr short ↦
            let none : (n : ℕ) → take {A = ℕ} n rest ≡ [] = λ n. ap (take n) short.1 ∙ take-nil n in (
              gap,
              take_after gap rest (k - length gap) k (omega arith)
                  ∙ ap (λ (x : List ℕ). gap ++ x) (none (k - length gap) ∙ sym (none (k - missing))),
              inr (short.0, none (k - missing)),
            )
      ]
    ]

-- the truncated bytes start with the attribute too
starts_cut : (bytes : List ℕ) (a : Attribute) (rest : List ℕ) (k : ℕ) → Starts bytes a rest → 4 + length a.value ≤ k
    → Starts (take k bytes) a (take (k - padded_size a) rest)
starts_cut bytes a rest k starts inside =
    let size : ℕ = 4 + length a.value in
    let text = length-attribute_bytes a in
    let gap = gap_cut a starts.gap rest (k - size) starts.gap_size in
    let left : k - size - padding (length a.value) ≡ k - padded_size a = omega arith in
    let whole : take k bytes ≡ attribute_bytes a ++ (gap.0 ++ take (k - size - padding (length a.value)) rest) =
    ap (take k) starts.whole ∙ take_after (attribute_bytes a) (starts.gap ++ rest) (k - size) k (omega arith)
    ∙ ap (λ (x : List ℕ). attribute_bytes a ++ x) gap.1 in
    subst (λ (n : ℕ). Starts (take k bytes) a (take n rest)) left
    (record { fits = starts.fits; gap = gap.0; whole = whole; gap_size = gap.2 })

-- ---- bytes in which no attribute ends

-- four bytes are enough for the length field
length_field-take : (bytes : List ℕ) (k : ℕ) → 4 ≤ k → length_field (take k bytes) ≡ length_field bytes
length_field-take bytes k long = ap number_le (take-take 2 k bytes (omega arith))

fault_is : (bytes : List ℕ) (k : ℕ) → k ≤ length bytes → (4 ≤ k → (length_field bytes < 4) ⊎ (k < length_field bytes))
    → IsFault (take k bytes) (fault_of bytes k)
fault_is bytes k inside damaged =
    let size : length (take k bytes) ≡ k = length-take-le k bytes inside in
    let field : ℕ = length_field bytes in
    let told : Bool → Bool → DecodeError =
    λ short low. cond short (NlaBufferTooSmall k 4) (cond low (NlaInvalidLength 4 field) (NlaLengthMismatch k field)) in
    elim (cases_lt k 4) [
      | inl short ↦ subst (λ (b : Bool). IsFault (take k bytes) (told b (ltb field 4))) (sym (lt-ltb k 4 short))
          (omega arith, sym size, refl)
      | inr long ↦ subst (λ (b : Bool). IsFault (take k bytes) (told b (ltb field 4))) (sym (le-ltb k 4 long))
          (let same : length_field (take k bytes) ≡ field = length_field-take bytes k long in
          elim (cases_lt field 4) [
            | inl low ↦ subst (λ (b : Bool). IsFault (take k bytes) (told false b)) (sym (lt-ltb field 4 low))
                (omega arith, omega arith, refl, sym same)
            | inr least ↦ subst (λ (b : Bool). IsFault (take k bytes) (told false b)) (sym (le-ltb field 4 least))
                (omega arith, elim (damaged long) [ inl low ↦ absurd (omega arith) | inr cut ↦ omega arith ], sym size, sym same)
          ])
    ]

not_empty : (k : ℕ) (bytes : List ℕ) → 0 < k → k ≤ length bytes → take k bytes ≢ []
not_empty k bytes some inside none = let size = length-take-le k bytes inside in omega (arith, ap length none)

-- bytes with an error have one wherever they are truncated
fault_cut : (bytes : List ℕ) (fault : DecodeError) (k : ℕ) → IsFault bytes fault → k ≤ length bytes → 4 ≤ k
    → (length_field bytes < 4) ⊎ (k < length_field bytes)
fault_cut bytes (NlaBufferTooSmall m n) k is inside long = absurd (omega arith)
fault_cut bytes (NlaLengthMismatch m n) k is inside long = inr (omega arith)
fault_cut bytes (NlaInvalidLength m n) k is inside long = inl (omega arith)
fault_cut bytes _ k is inside long = absurd is

-- ---- offsets

-- `IsCutAt`, for attributes that start at an offset
abbrev pub IsCutFrom : ℕ → List Attribute → Option DecodeError → ℕ → ℕ → Type 0
IsCutFrom at all fault cut start =
    ((index : ℕ) × (end : ℕ) × (slice_get (ends_from at all) index ≡ Some (start, end)) × (start < cut) × (cut < end))
    ⊎ ((fault ≢ None) × (start ≡ fault_start_from at all) × (start < cut))

start_or : Option (ℕ × ℕ) → ℕ → ℕ
start_or None at = at
start_or (Some place) at = place.0

end_or : Option (ℕ × ℕ) → ℕ → ℕ
end_or None at = at
end_or (Some place) at = place.1

-- each attribute starts at or after the offset
place_after : (at : ℕ) (all : List Attribute) (index start end : ℕ) → slice_get (ends_from at all) index ≡ Some (start, end) → at ≤ start
unfolding start_or
place_after at [] index start end is = cc
place_after at (a ∷ more) zero start end is = let starts : at ≡ start = ap (λ (o : Option (ℕ × ℕ)). start_or o at) is in omega arith
place_after at (a ∷ more) (suc index) start end is = let later = place_after (at + padded_size a) more index start end is in omega arith

fault_after : (at : ℕ) (all : List Attribute) → at ≤ fault_start_from at all
fault_after at [] = omega arith
fault_after at (a ∷ more) = let later = fault_after (at + padded_size a) more in omega arith

none_cut : (at : ℕ) (all : List Attribute) (fault : Option DecodeError) (cut start : ℕ) → cut ≤ at → IsCutFrom at all fault cut start → ⊥
none_cut at all fault cut start low (inl (index, end, is, before, inside)) = let behind = place_after at all index start end is in
    omega arith
none_cut at all fault cut start low (inr (some, is, before)) = let behind = fault_after at all in omega arith

-- no attribute that starts at or after the cut is kept
none_kept : (at cut : ℕ) (all : List Attribute) → cut ≤ at → kept_from at cut all ≡ []
none_kept at cut [] low = refl
none_kept at cut (a ∷ more) low =
    subst (λ (b : Bool). cond b (a ∷ kept_from (at + padded_size a) cut more) (kept_from (at + padded_size a) cut more) ≡ [])
    (sym (lt-leb (at + (4 + length a.value)) cut (omega arith)))
    (none_kept (at + padded_size a) cut more (omega arith))

-- a cut falls in the first attribute, or in those that follow it
cut_first : (at : ℕ) (a : Attribute) (more : List Attribute) (fault : Option DecodeError) (cut start : ℕ)
    → IsCutFrom at (a ∷ more) fault cut start
    → ((start ≡ at) × (cut < at + (4 + length a.value))) ⊎ IsCutFrom (at + padded_size a) more fault cut start
unfolding start_or end_or
cut_first at a more fault cut start (inl (zero, end, is, before, inside)) =
    let starts = ap (λ (o : Option (ℕ × ℕ)). start_or o at) is in
    let ends = ap (λ (o : Option (ℕ × ℕ)). end_or o at) is in
    inl (sym starts, omega arith)
cut_first at a more fault cut start (inl (suc index, end, is, before, inside)) = inr (inl (index, end, is, before, inside))
cut_first at a more fault cut start (inr is) = inr (inr is)

cut_after : (at : ℕ) (a : Attribute) (more : List Attribute) (fault : Option DecodeError) (cut start : ℕ)
    → IsCutFrom (at + padded_size a) more fault cut start → IsCutFrom at (a ∷ more) fault cut start
cut_after at a more fault cut start (inl (index, end, is, before, inside)) = inl (suc index, end, is, before, inside)
cut_after at a more fault cut start (inr is) = inr is

low_cut : (at : ℕ) (all : List Attribute) (fault : Option DecodeError) (cut start : ℕ) → IsCutFrom at all fault cut start → at ≤ start
low_cut at all fault cut start (inl (index, end, is, before, inside)) = place_after at all index start end is
low_cut at all fault cut start (inr (some, is, before)) = let behind = fault_after at all in omega arith

only_fault : (at : ℕ) (fault : DecodeError) (cut start : ℕ) → IsCutFrom at [] (Some fault) cut start → start ≡ at
only_fault at fault cut start (inl (index, end, is, before, inside)) = cc
only_fault at fault cut start (inr (some, is, before)) = is

-- ---- the walk of the truncated bytes

-- it has the attributes that end at or before the cut, and an error if and only if the cut falls
-- inside an attribute or past the start of an error
abbrev pub IsLeft : ℕ → List ℕ → List Attribute → Option DecodeError → ℕ → Option DecodeError → Type 0
IsLeft at bytes all fault cut end =
    Walk (take (cut - at) bytes) (kept_from at cut all) end
    × ((start : ℕ) → IsCutFrom at all fault cut start → end ≡ Some (fault_of (drop (start - at) bytes) (cut - start)))
    × (((start : ℕ) → IsCutFrom at all fault cut start → ⊥) → end ≡ None)

-- a cut at or before the offset leaves nothing
nothing_left : (at : ℕ) (bytes : List ℕ) (all : List Attribute) (fault : Option DecodeError) (cut : ℕ) → cut ≤ at
    → IsLeft at bytes all fault cut None
nothing_left at bytes all fault cut same = (
  subst (λ (left : List Attribute). Walk (take (cut - at) bytes) left None) (sym (none_kept at cut all (omega arith)))
      (ap (λ (k : ℕ). take k bytes) (let e : cut - at ≡ 0 = omega arith in e)),
  λ start is. absurd (none_cut at all fault cut start (omega arith) is),
  λ none. refl,
)

-- a cut in what comes first leaves an error
front_left : (at : ℕ) (bytes : List ℕ) (all : List Attribute) (fault : Option DecodeError) (cut : ℕ) → at < cut → cut ≤ at + length bytes
    → kept_from at cut all ≡ []
    → (4 ≤ cut - at → (length_field bytes < 4) ⊎ (cut - at < length_field bytes)) → IsCutFrom at all fault cut at
    → ((start : ℕ) → IsCutFrom at all fault cut start → start ≡ at)
    → IsLeft at bytes all fault cut (Some (fault_of bytes (cut - at)))
front_left at bytes all fault cut past inside none damaged here alone = (
  subst (λ (left : List Attribute). Walk (take (cut - at) bytes) left (Some (fault_of bytes (cut - at)))) (sym none)
      (not_empty (cut - at) bytes (omega arith) (omega arith), fault_is bytes (cut - at) (omega arith) damaged),
  λ start is.
      let same : start ≡ at = alone start is in
      let front : start - at ≡ 0 = omega arith in
      ap (λ (k : ℕ). Some (fault_of bytes (cut - k))) (sym same) ∙ ap (λ (k : ℕ). Some (fault_of (drop k bytes) (cut - start))) (sym front),
  λ never. absurd (never at here),
)

-- what is kept of attributes if the first ends at or before the cut, and if it does not
kept_first : (at cut : ℕ) (a : Attribute) (more : List Attribute) → at + (4 + length a.value) ≤ cut
    → kept_from at cut (a ∷ more) ≡ a ∷ kept_from (at + padded_size a) cut more
kept_first at cut a more ends =
    ap (λ (b : Bool). cond b (a ∷ kept_from (at + padded_size a) cut more) (kept_from (at + padded_size a) cut more))
    (le-leb (at + (4 + length a.value)) cut ends)

not_kept : (at cut : ℕ) (a : Attribute) (more : List Attribute) → cut < at + (4 + length a.value) → kept_from at cut (a ∷ more) ≡ []
not_kept at cut a more inside =
    ap (λ (b : Bool). cond b (a ∷ kept_from (at + padded_size a) cut more) (kept_from (at + padded_size a) cut more))
    (lt-leb (at + (4 + length a.value)) cut inside)
    ∙ none_kept (at + padded_size a) cut more (omega arith)

-- the first attribute ends at or before the cut, and what is left of the rest is known
after_left : (at : ℕ) (bytes rest : List ℕ) (a : Attribute) (more : List Attribute) (fault end : Option DecodeError) (cut : ℕ)
    → Starts bytes a rest → at + (4 + length a.value) ≤ cut
    → IsLeft (at + padded_size a) rest more fault cut end → IsLeft at bytes (a ∷ more) fault cut end
after_left at bytes rest a more fault end cut starts ends (walk, faulty, sound) =
    let later : cut - at - padded_size a ≡ cut - (at + padded_size a) = omega arith in
    let begins = starts_cut bytes a rest (cut - at) starts (omega arith) in
    let same : rest ≡ drop (padded_size a) bytes = starts-rest bytes a rest starts in (
      subst (λ (left : List Attribute). Walk (take (cut - at) bytes) left end) (sym (kept_first at cut a more ends))
          (take (cut - (at + padded_size a)) rest, subst (λ (k : ℕ). Starts (take (cut - at) bytes) a (take k rest)) later begins, walk),
      λ start is. elim (cut_first at a more fault cut start is) [
        | inl first ↦ absurd (omega (arith, first.1))
        | inr behind ↦
            let low : at + padded_size a ≤ start = low_cut (at + padded_size a) more fault cut start behind in
            let offset : padded_size a + (start - (at + padded_size a)) ≡ start - at = omega arith in
            faulty start behind
            ∙ ap (λ (b : List ℕ). Some (fault_of b (cut - start)))
            (ap (drop (start - (at + padded_size a))) same ∙ drop-drop (start - (at + padded_size a)) (padded_size a) bytes
            ∙ ap (λ (k : ℕ). drop k bytes) offset)
      ],
      λ never. sound (λ start behind. never start (cut_after at a more fault cut start behind)),
    )

pub walk_left : (at : ℕ) (bytes : List ℕ) (all : List Attribute) (fault : Option DecodeError) (cut : ℕ) → Walk bytes all fault → at ≤ cut
    → cut ≤ at + length bytes
    → (end : Option DecodeError) × IsLeft at bytes all fault cut end
walk_left at bytes [] None cut none low inside =
    let size : length bytes ≡ 0 = ap length none in
    (None, nothing_left at bytes [] None cut (omega arith))
walk_left at bytes [] (Some fault) cut (some, is) low inside =
    elim (cases_lt at cut) [
      | inl past ↦ (
        Some (fault_of bytes (cut - at)),
        front_left at bytes [] (Some fault) cut past inside refl (λ long. fault_cut bytes fault (cut - at) is (omega arith) long)
            (inr (λ none. cc, refl, past)) (λ start is. only_fault at fault cut start is),
      )
      | inr at_once ↦ (None, nothing_left at bytes [] (Some fault) cut (omega arith))
    ]
walk_left at bytes (a ∷ more) fault cut (rest, starts, walk) low inside =
    let size = starts-length bytes a rest starts in
    let field = starts-length_field bytes a rest starts in
    elim (cases_lt cut (at + (4 + length a.value))) [
      | inl within ↦ elim (cases_lt at cut) [
        | inl past ↦ (
          Some (fault_of bytes (cut - at)),
          front_left at bytes (a ∷ more) fault cut past inside (not_kept at cut a more within) (λ long. inr (omega arith))
              (inl (0, at + (4 + length a.value), refl, past, within))
              (λ start is. elim (cut_first at a more fault cut start is)
              [ inl first ↦ first.0 | inr behind ↦ absurd (none_cut (at + padded_size a) more fault cut start (omega arith) behind) ]),
        )
        | inr at_once ↦ (None, nothing_left at bytes (a ∷ more) fault cut (omega arith))
      ]
      | inr ends ↦ elim (cases_lt cut (at + padded_size a)) [
        | inl gap ↦ (
          None,
          after_left at bytes rest a more fault None cut starts ends
              (nothing_left (at + padded_size a) rest more fault cut (omega arith)),
        )
        | inr behind ↦
            let left : cut ≤ at + padded_size a + length rest =
            elim starts.gap_size [ inl full ↦ omega arith | inr short ↦ omega (arith, short.0, ap length short.1) ] in
            let later = walk_left (at + padded_size a) rest more fault cut walk behind left in
            (later.0, after_left at bytes rest a more fault later.0 cut starts ends later.1)
      ]
    ]

-- the same from the start of the bytes
whole_left : (bytes : List ℕ) (cut : ℕ) → cut ≤ length bytes → (all : List Attribute) (fault : Option DecodeError) → Walk bytes all fault
    → (end : Option DecodeError) × Walk (take cut bytes) (kept_by cut all) end
    × ((start : ℕ) → IsCutAt all fault cut start → end ≡ Some (cut_fault bytes start cut))
    × (((start : ℕ) → IsCutAt all fault cut start → ⊥) → end ≡ None)
whole_left bytes cut inside all fault walk =
    let left = walk_left 0 bytes all fault cut walk (omega arith) (omega arith) in
    let from_start : (n : ℕ) → n - 0 ≡ n = λ n. omega arith in (
      left.0,
      subst (λ (k : ℕ). Walk (take k bytes) (kept_by cut all) left.0) (from_start cut) left.1.0,
      λ start is. left.1.1 start is ∙ ap (λ (k : ℕ). Some (fault_of (drop k bytes) (cut - start))) (from_start start),
      left.1.2,
    )

pub cut_attributes : (bytes : List ℕ) (cut : ℕ) → cut ≤ length bytes → (all : List Attribute) (fault : Option DecodeError)
    → Walk bytes all fault → (end : Option DecodeError) × Walk (take cut bytes) (kept_by cut all) end
cut_attributes bytes cut inside all fault walk = let known = whole_left bytes cut inside all fault walk in (known.0, known.1)

pub cut_is_fault : (bytes : List ℕ) (cut : ℕ) → cut ≤ length bytes
    → (all left : List Attribute) (fault end : Option DecodeError) (start : ℕ) → Walk bytes all fault → Walk (take cut bytes) left end
    → IsCutAt all fault cut start → end ≡ Some (cut_fault bytes start cut)
cut_is_fault bytes cut inside all left fault end start walk other is =
    let known = whole_left bytes cut inside all fault walk in
    (walk_once (take cut bytes) left (kept_by cut all) end known.0 other known.1).1 ∙ known.2 start is

pub cut_no_fault : (bytes : List ℕ) (cut : ℕ) → cut ≤ length bytes → (all left : List Attribute) (fault end : Option DecodeError)
    → Walk bytes all fault → Walk (take cut bytes) left end
    → ((start : ℕ) → IsCutAt all fault cut start → ⊥) → end ≡ None
cut_no_fault bytes cut inside all left fault end walk other never =
    let known = whole_left bytes cut inside all fault walk in
    (walk_once (take cut bytes) left (kept_by cut all) end known.0 other known.1).1 ∙ known.3 never
