-- How the places of a block follow its attributes.
use Rattle.std.proofs.Common.{◌≡◌, ◌≢◌, ◌==◌, ◌∙◌, ℕ, ◌+◌, ◌-◌, ◌*◌, ◌/◌, ◌%◌, ◌<◌, Bool, true, false, List, length, drop, ap, sym, subst, arith, eqb-true, eq-eqb, length-drop, refl}
use Rattle.std.proofs.lemmas.List.{drop-drop}
use Rattle.netlink_attributes.specs.Views.{attribute_of, masked}
use Rattle.netlink_shapes.specs.ListingLaws.{first_later}
use Rattle.netlink_blocks.specs.Index.{IsFirstAt, IsPlaceOfKind}
use Rattle.netlink_shapes.specs.Listing.{first_of, listed}
use Rattle.netlink_shapes.specs.ListingLaws.{before_step}
use Rattle.netlink_shapes.specs.Whole.{IsWhole}
use Rattle.netlink_shapes.specs.WholeWalks.{Next, whole_first, whole_here}

-- an attribute at an offset, with what follows it, and the place of a kind before and after it
pub record Entered (block : List ℕ) (at end kind own old new : ℕ) : Type 0 where
  pub inside : at < length block
  pub whole : IsWhole (drop at block)
  pub next : Next (drop at block) end
  pub multiple : at % 4 ≡ 0
  pub is : masked (attribute_of (drop at block)).kind ≡ own
  pub others : kind ≢ own → new ≡ old
  pub kept : 0 < old → new ≡ old
  pub fresh : kind ≡ own → old ≡ 0 → new ≡ at / 4 + 1

pub first_passed : (block : List ℕ) (at end kind own : ℕ) → Next (drop at block) end
    → masked (attribute_of (drop at block)).kind ≡ own → kind ≢ own
    → first_of kind (listed (drop at block)) ≡ first_of kind (listed (drop (at + end) block))
first_passed block at end kind own next is other =
    let bytes : List ℕ = drop at block in
    ap (first_of kind) (before_step bytes (attribute_of bytes) (drop end bytes) next.starts)
    ∙ first_later kind (attribute_of bytes) (listed (drop end bytes)) (λ same. other (sym same ∙ is))
    ∙ ap (λ (b : List ℕ). first_of kind (listed b)) (drop-drop end at block)

first_entered : (block : List ℕ) (at kind own : ℕ) → at < length block → length (drop at block) ≡ length block - at
    → IsWhole (drop at block) → masked (attribute_of (drop at block)).kind ≡ own → kind ≡ own
    → first_of kind (listed block) ≡ first_of kind (listed (drop at block)) → IsFirstAt block kind at
first_entered block at kind own inside left whole is same before =
    let bytes : List ℕ = drop at block in
    (whole_here bytes (omega arith) whole, before ∙ whole_first kind bytes (omega arith) whole (is ∙ sym same))

bool_differ : (b : Bool) → b ≡ true → b ≡ false → ⊥
bool_differ b p q = cc

-- an entry keeps what the places say
by_tests : (block : List ℕ) (at end kind own old new : ℕ) → Entered block at end kind own old new
    → IsPlaceOfKind block (drop at block) kind old → 0 < new → (none same : Bool) → (old == 0) ≡ none
    → (kind == own) ≡ same → IsFirstAt block kind (4 * (new - 1))
by_tests block at end kind own old new e place some true true none same =
    let zero : old ≡ 0 = eqb-true old 0 none in
    let is : kind ≡ own = eqb-true kind own same in
    let new_is : new ≡ at / 4 + 1 = e.fresh is zero in
    let multiple = e.multiple in
    let offset : at ≡ 4 * (new - 1) = omega arith in
    subst (λ (n : ℕ). IsFirstAt block kind n) offset
    (first_entered block at kind own e.inside (length-drop at block) e.whole e.is is (place.0 zero))
by_tests block at end kind own old new e place some true false none same =
    let other : kind ≢ own = λ is. bool_differ (kind == own) (eq-eqb kind own is) same in
    let zero : old ≡ 0 = eqb-true old 0 none in
    let is : new ≡ old = e.others other in
    absurd (omega arith)
by_tests block at end kind own old new e place some false same none is_own =
    let other : old ≢ 0 = λ is. bool_differ (old == 0) (eq-eqb old 0 is) none in
    let positive : 0 < old = omega (arith, other) in
    subst (λ (n : ℕ). IsFirstAt block kind (4 * (n - 1))) (sym (e.kept positive)) (place.1 positive)

not_own : (block : List ℕ) (at end kind own old new : ℕ) → Entered block at end kind own old new
    → new ≡ 0 → old ≡ 0 → kind ≢ own
not_own block at end kind own old new e none zero is =
    let new_is : new ≡ at / 4 + 1 = e.fresh is zero in absurd (omega arith)

was_none : (old new : ℕ) → (0 < old → new ≡ old) → new ≡ 0 → old ≡ 0
was_none old new kept none = grind arith

pub place_next : (block : List ℕ) (at end kind own old new : ℕ) → Entered block at end kind own old new
    → IsPlaceOfKind block (drop at block) kind old → IsPlaceOfKind block (drop (at + end) block) kind new
place_next block at end kind own old new e place = (
  λ none. let zero = was_none old new e.kept none in
      place.0 zero ∙ first_passed block at end kind own e.next e.is (not_own block at end kind own old new e none zero),
  λ some. by_tests block at end kind own old new e place some (old == 0) (kind == own) refl refl,
)
