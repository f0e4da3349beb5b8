-- What a range that was found implies about the value there.
use Rattle.std.proofs.Common.{◌≡◌, ◌↔◌, ℕ, suc, ◌+◌, ◌<◌, ◌≤◌, List, [], ◌∷◌, length, Option, Some, None, refl, ap, sym, subst, ◌∙◌, inl, inr, arith, MutBor}
use Rattle.std.proofs.lemmas.Bool.{le-leb, lt-leb}
use Rattle.std.proofs.lemmas.Option.{none-some, slice_get_past, slice_get_cases}
use Rattle.std.specs.Prelude.{IsNone, IsSomeAnd, slice_range}
use Rattle.std.specs.Option.{option_map}
use Rattle.netlink_bytes.specs.Storage.{put_at}
use Rattle.netlink_bytes.specs.declared.error.DecodeError.{DecodeError}
use Rattle.netlink_attributes.specs.Attribute.{Attribute, padded_size}
use Rattle.netlink_attributes.specs.Places.{ends_from, ends_of, value_part, value_place, IsPlace, IsRange, IsValue, IsWritten}
use Rattle.netlink_attributes.specs.Walk.{Walk}

-- the location that a range gives
range_place : (bytes : List ℕ) (index start end : ℕ) → IsRange bytes index start end → start ≤ end → IsPlace bytes index (Some (start, end))
range_place bytes index start end range order = let test = le-leb start end order in λ all fault walk. rw test at range all fault walk

range_no_place : (bytes : List ℕ) (index start end : ℕ) → IsRange bytes index start end → end < start → IsPlace bytes index None
range_no_place bytes index start end range falls = let test = lt-leb start end falls in λ all fault walk. rw test at range all fault walk

-- ---- there is a location if and only if the list has the index

length-ends_from : (at : ℕ) (all : List Attribute) → length (ends_from at all) ≡ length all
length-ends_from at [] = refl
length-ends_from at (a ∷ more) = ap (λ (n : ℕ). suc n) (length-ends_from (at + padded_size a) more)

place_past : (all : List Attribute) (index : ℕ) → length all ≤ index → value_place all index ≡ None
place_past all index past = ap (option_map value_part) (slice_get_past (ends_of all) index (omega (arith, past, length-ends_from 0 all)))

past_place : (all : List Attribute) (index : ℕ) → value_place all index ≡ None → length all ≤ index
past_place all index none = elim (slice_get_cases (ends_of all) index).1 [
  | inl found ↦ absurd (none-some _ (sym none ∙ ap (option_map value_part) found.2))
  | inr past ↦ omega (arith, past.0, length-ends_from 0 all)
]

-- ---- what the clauses state about a range

-- there is no such attribute
pub no_value : (bytes : List ℕ) (index start end : ℕ) → IsRange bytes index start end → end < start
    → (all : List Attribute) (fault : Option DecodeError) → Walk bytes all fault → IsNone {T = MutBor (List ℕ)} None ↔ (length all ≤ index)
no_value bytes index start end range falls all fault walk =
    (λ _. past_place all index (sym (range_no_place bytes index start end range falls all fault walk)), λ _. refl)

-- there is one
pub some_value : (bytes : List ℕ) (index start end : ℕ) (value : MutBor (List ℕ)) → IsRange bytes index start end → start ≤ end
    → (all : List Attribute) (fault : Option DecodeError) → Walk bytes all fault → IsNone (Some value) ↔ (length all ≤ index)
some_value bytes index start end value range order all fault walk = (
  λ never. cc,
  λ past. absurd (none-some _ (sym (place_past all index past) ∙ sym (range_place bytes index start end range order all fault walk))),
)

-- the bytes there are its value
pub value_held : (bytes : List ℕ) (index start end : ℕ) → IsRange bytes index start end → start ≤ end
    → IsValue bytes index (slice_range bytes start end)
value_held bytes index start end range order = λ all fault walk.
    subst (λ (o : Option (ℕ × ℕ)). IsSomeAnd o (λ place. slice_range bytes start end ≡ slice_range bytes place.0 place.1))
    (range_place bytes index start end range order all fault walk) refl

-- and bytes written there are written as its value
pub value_written : (bytes : List ℕ) (index start end : ℕ) → IsRange bytes index start end → start ≤ end → (value : List ℕ)
    → IsWritten bytes index value (put_at bytes start value)
value_written bytes index start end range order value = λ all fault walk.
    subst (λ (o : Option (ℕ × ℕ)). IsSomeAnd o (λ place. put_at bytes start value ≡ put_at bytes place.0 value))
    (range_place bytes index start end range order all fault walk) refl
