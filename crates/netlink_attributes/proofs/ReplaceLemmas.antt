-- A value replaced by one of the same size.
use Rattle.std.proofs.Common.{◌≡◌, ◌≢◌, ◌⊎◌, ℕ, zero, suc, ◌+◌, ◌<◌, List, [], ◌∷◌, ◌++◌, length, take, drop, refl, ap, sym, subst, ◌∙◌, inl, inr, arith, Option, Some, None, append_assoc, length-append}
use Rattle.std.proofs.Math.Seq.{take-append-add, drop-append-add}
use Rattle.std.proofs.lemmas.List.{drop_at}
use Rattle.std.specs.Prelude.{IsSomeAnd, slice_get}
use Rattle.std.specs.Option.{option_map}
use Rattle.netlink_bytes.specs.Numbers.{bytes_le}
use Rattle.netlink_bytes.specs.NumberLaws.{length-bytes_le}
use Rattle.netlink_bytes.specs.Storage.{put_at}
use Rattle.netlink_bytes.specs.declared.error.DecodeError.{DecodeError}
use Rattle.netlink_attributes.specs.Attribute.{Attribute, attribute_bytes, padding, padded_size}
use Rattle.netlink_attributes.specs.Sizes.{length-attribute_bytes}
use Rattle.netlink_attributes.specs.Places.{ends_from, ends_of, value_part, value_place, replaced, HasValueOf, IsWritten}
use Rattle.netlink_attributes.specs.Walk.{Starts, Walk}
use Rattle.netlink_attributes.specs.StartLaws.{nothing_starts}

-- bytes written after a front
pub put_after : (front rest text : List ℕ) (at n : ℕ) → at ≡ length front + n → put_at (front ++ rest) at text ≡ front ++ put_at rest n text
put_after front rest text at n far =
    let end : at + length text ≡ length front + (n + length text) = omega arith in
    ap (λ (k : ℕ). take k (front ++ rest) ++ (text ++ drop (at + length text) (front ++ rest))) far
    ∙ ap (λ (x : List ℕ). x ++ (text ++ drop (at + length text) (front ++ rest))) (take-append-add front rest n)
    ∙ ap (λ (k : ℕ). (front ++ take n rest) ++ (text ++ drop k (front ++ rest))) end
    ∙ ap (λ (x : List ℕ). (front ++ take n rest) ++ (text ++ x)) (drop-append-add front rest (n + length text))
    ∙ append_assoc front (take n rest) (text ++ drop (n + length text) rest)

-- bytes written at the start, over the same number of bytes
pub put_front : (old rest text : List ℕ) → length text ≡ length old → put_at (old ++ rest) 0 text ≡ text ++ rest
put_front old rest text same = ap (λ (x : List ℕ). text ++ x) (drop_at old rest (0 + length text) (omega (arith, same)))

abbrev header : ℕ → ℕ → List ℕ
header size kind = bytes_le (4 + size) 2 ++ bytes_le kind 2

length-header : (size kind : ℕ) → length (header size kind) ≡ 4
length-header size kind =
    length-append (bytes_le (4 + size) 2) (bytes_le kind 2) ∙ omega (arith, length-bytes_le (4 + size) 2, length-bytes_le kind 2)

attribute_bytes-append : (a : Attribute) (rest : List ℕ) → attribute_bytes a ++ rest ≡ header (length a.value) a.kind ++ (a.value ++ rest)
attribute_bytes-append a rest =
    let grouped : (x y v r : List ℕ) → (x ++ (y ++ v)) ++ r ≡ (x ++ y) ++ (v ++ r) = λ x y v r. simp append_assoc in
    grouped (bytes_le (4 + length a.value) 2) (bytes_le a.kind 2) a.value rest

-- the value of the first attribute, replaced
first_replaced : (bytes : List ℕ) (a : Attribute) (rest value : List ℕ) → Starts bytes a rest → length value ≡ length a.value
    → Starts (put_at bytes 4 value) (record { kind = a.kind; value = value }) rest
first_replaced bytes a rest value starts same =
    let behind : List ℕ = starts.gap ++ rest in
    let fits = starts.fits.value in
    record {
      fits = record { kind = starts.fits.kind; value = omega (arith, fits, same) };
      gap = starts.gap;
      whole = ap (λ (x : List ℕ). put_at x 4 value) (starts.whole ∙ attribute_bytes-append a behind)
          ∙ put_after (header (length a.value) a.kind) (a.value ++ behind) value 4 0 (omega (arith, length-header (length a.value) a.kind))
          ∙ ap (λ (x : List ℕ). header (length a.value) a.kind ++ x) (put_front a.value behind value same)
          ∙ ap (λ (n : ℕ). header n a.kind ++ (value ++ behind)) (sym same)
          ∙ sym (attribute_bytes-append (record { kind = a.kind; value = value }) behind);
      gap_size =
          subst (λ (n : ℕ). (length starts.gap ≡ padding n) ⊎ ((length starts.gap < padding n) × (rest ≡ []))) (sym same) starts.gap_size;
    }

-- if an attribute has a location, something is left
some_left : (at : ℕ) (rest : List ℕ) (more : List Attribute) (fault : Option DecodeError) (index : ℕ) (place : ℕ × ℕ) → Walk rest more fault
    → slice_get (ends_from at more) index ≡ Some place → rest ≢ []
some_left at rest [] fault index place walk is = absurd (let never : None ≡ Some place = is in cc)
some_left at rest (a ∷ more) fault index place walk is = λ none. nothing_starts rest a walk.0 none walk.1

-- an attribute with a value of this size is found at some distance, and replaced there
replaced_from : (at : ℕ) (bytes : List ℕ) (all : List Attribute) (fault : Option DecodeError) (index : ℕ) (value : List ℕ) (place : ℕ × ℕ)
    → Walk bytes all fault
    → slice_get (ends_from at all) index ≡ Some place → place.1 ≡ place.0 + 4 + length value
    → (far : ℕ) × (place.0 ≡ at + far) × Walk (put_at bytes (far + 4) value) (replaced all index value) fault
replaced_from at bytes [] fault index value place walk is size = absurd (let never : None ≡ Some place = is in cc)
replaced_from at bytes (a ∷ more) fault zero value place (rest, starts, walk) is size =
    let here : ◌≡◌ {A = Option (ℕ × ℕ)} (Some (at, at + (4 + length a.value))) (Some place) = is in
    let same : ◌≡◌ {A = ℕ × ℕ} (at, at + (4 + length a.value)) place = cc in
    let low : at ≡ place.0 = ap (λ (p : ℕ × ℕ). p.0) same in
    let high : at + (4 + length a.value) ≡ place.1 = ap (λ (p : ℕ × ℕ). p.1) same in
    (0, omega arith, (rest, first_replaced bytes a rest value starts (omega arith), walk))
replaced_from at bytes (a ∷ more) fault (suc index) value place (rest, starts, walk) is size =
    let full : length starts.gap ≡ padding (length a.value) = elim starts.gap_size [
      | inl full ↦ full
      | inr short ↦ absurd (some_left (at + padded_size a) rest more fault index place walk is short.1)
    ] in
    let front : List ℕ = attribute_bytes a ++ starts.gap in
    let front_size : length front ≡ padded_size a = omega (arith, length-append (attribute_bytes a) starts.gap, length-attribute_bytes a) in
    let later = replaced_from (at + padded_size a) rest more fault index value place walk is size in (
      length front + later.0,
      omega (arith, later.1),
      (
        put_at rest (later.0 + 4) value,
        record {
          fits = starts.fits;
          gap = starts.gap;
          whole =
              ap (λ (x : List ℕ). put_at x (length front + later.0 + 4) value)
              (starts.whole ∙ sym (append_assoc (attribute_bytes a) starts.gap rest))
              ∙ put_after front rest value (length front + later.0 + 4) (later.0 + 4) (omega arith)
              ∙ append_assoc (attribute_bytes a) starts.gap (put_at rest (later.0 + 4) value);
          gap_size = inl full;
        },
        later.2,
      ),
    )

-- from one fact about a value's range to another, if the range is known
on_place : (o : Option (ℕ × ℕ)) (P Q : ℕ × ℕ → Type 0) → ((place : ℕ × ℕ) → o ≡ Some place → P (value_part place) → Q (value_part place))
    → IsSomeAnd (option_map value_part o) P → IsSomeAnd (option_map value_part o) Q
on_place None P Q then given = given
on_place (Some place) P Q then given = then place refl given

walk_replaced : (bytes : List ℕ) (index : ℕ) (value : List ℕ) (all : List Attribute) (fault : Option DecodeError) → Walk bytes all fault
    → HasValueOf all index (length value)
    → IsSomeAnd (value_place all index) (λ place. Walk (put_at bytes place.0 value) (replaced all index value) fault)
walk_replaced bytes index value all fault walk has =
    on_place (slice_get (ends_of all) index) (λ place. place.1 ≡ place.0 + length value)
    (λ place. Walk (put_at bytes place.0 value) (replaced all index value) fault)
    (λ place is size.
    let found = replaced_from 0 bytes all fault index value place walk is size in
    let far : found.0 ≡ place.0 = omega (arith, found.1) in
    subst (λ (k : ℕ). Walk (put_at bytes (k + 4) value) (replaced all index value) fault) far found.2) has

-- in each walk, there is an attribute with this index, and its value has this size
abbrev pub IsSized : List ℕ → ℕ → ℕ → Type 0
IsSized bytes index size = (all : List Attribute) (fault : Option DecodeError) → Walk bytes all fault → HasValueOf all index size

pub value_replaced : (bytes : List ℕ) (index : ℕ) (value : List ℕ) → IsSized bytes index (length value)
    → (all : List Attribute) (fault : Option DecodeError) → Walk bytes all fault
    → IsSomeAnd (value_place all index) (λ place. Walk (put_at bytes place.0 value) (replaced all index value) fault)
value_replaced bytes index value sized all fault walk = walk_replaced bytes index value all fault walk (sized all fault walk)

-- what holds for the bytes at a range holds for bytes that are equal to them
at_place : (o : Option (ℕ × ℕ)) (new : List ℕ) (text : ℕ × ℕ → List ℕ) (P : List ℕ → Type 0) → IsSomeAnd o (λ place. new ≡ text place)
    → IsSomeAnd o (λ place. P (text place)) → P new
at_place None new text P is holds = absurd holds
at_place (Some place) new text P is holds = subst P (sym is) holds

pub written_replaced : (bytes : List ℕ) (index : ℕ) (value : List ℕ) → IsSized bytes index (length value) → (new : List ℕ)
    → IsWritten bytes index value new
    → (all : List Attribute) (fault : Option DecodeError) → Walk bytes all fault → Walk new (replaced all index value) fault
written_replaced bytes index value sized new written all fault walk =
    at_place (value_place all index) new (λ place. put_at bytes place.0 value) (λ (x : List ℕ). Walk x (replaced all index value) fault)
    (written all fault walk) (value_replaced bytes index value sized all fault walk)
