-- An attribute that is appended keeps the shapes of those before it.
use Rattle.std.proofs.Common.{◌≡◌, ◌≢◌, ◌==◌, ◌&&◌, ℕ, Bool, true, false, List, [], ◌∷◌, ◌++◌, refl, sym, ap, ◌∙◌, Option, Some, None}
use Rattle.std.specs.Prelude.{◌||◌, is_some, not, if◌then◌else◌}
use Rattle.std.specs.List.{list_all}
use Rattle.std.specs.Option.{option_map}
use Rattle.std.proofs.lemmas.Bool.{and_from, and_parts, eqb-true, eq-eqb}
use Rattle.netlink_packet_core.specs.Attribute.{Attribute}
use Rattle.netlink_packet_core.specs.Nla.{attribute_with}
use Rattle.netlink_packet_core.specs.Views.{attribute_of, masked}
use Rattle.netlink_packet_core.specs.Walk.{Starts}
use Rattle.netlink_shapes.specs.Blocks.{all_normalized, normalized, with_first}
use Rattle.netlink_shapes.specs.ListingLaws.{first_later}
use Rattle.netlink_shapes.specs.Listing.{first_of, listed}
use Rattle.netlink_shapes.specs.Pushing.{chooses, is_chosen_by, is_late, keeps_shape, late_error}
use Rattle.netlink_shapes.specs.Shapes.{Row, Scope, any_kind, choice_by, is_shaped, keep, nest_levels, number_by, or_first, reading_in, resolved, row_at, shape_among, shape_by, shape_in}
use Rattle.netlink_shapes.specs.ListingLaws.{before_step}
use Rattle.netlink_shapes.specs.declared.attribute_error.AttributeError.{AttributeError}
use Rattle.netlink_shapes.specs.declared.shape.Shape.{Shape}
use Rattle.netlink_shapes.specs.declared.shape.Shape.TheVariants.{Flag, U8, U16, U32, U64, I32, I64, Be16, Be32, Be64, BeI32, ExactLen, Ip, NulStr, Str, MinLen, Elements, Nested, HeaderNested, Chosen, ChosenByNumber, Bytes}

-- ---- a kind that chooses no shape

or_false : (x y : Bool) → (x || y) ≡ false → (x ≡ false) × (y ≡ false)
or_false true y is = absurd (cc)
or_false false y is = (refl, is)

by_key : (policy same : Bool) (row : Row) (later : Option Row) (kind : ℕ) → (policy && is_chosen_by kind row.3) ≡ false
    → is_chosen_by kind (shape_by later) ≡ false
    → is_chosen_by kind (shape_by (if policy && same then Some row else later)) ≡ false
by_key true true row later kind own rest = own
by_key true false row later kind own rest = rest
by_key false same row later kind own rest = rest

row_unchosen : (rows : List Row) (kind k : ℕ) → chooses rows kind ≡ false
    → is_chosen_by kind (shape_by (row_at rows 0 k)) ≡ false
row_unchosen [] kind k none = refl
row_unchosen (row ∷ rows) kind k none =
    let parts = or_false (row.0 == 0 && is_chosen_by kind row.3) (chooses rows kind) none in
    by_key (row.0 == 0) (row.1 == k) row (row_at rows 0 k) kind parts.0 (row_unchosen rows kind k parts.1)

by_either : (first later : Option Row) (kind : ℕ) → is_chosen_by kind (shape_by first) ≡ false
    → is_chosen_by kind (shape_by later) ≡ false → is_chosen_by kind (shape_by (or_first first later)) ≡ false
by_either (Some row) later kind own rest = own
by_either None later kind own rest = rest

shape_unchosen : (rows : List Row) (kind k : ℕ) → chooses rows kind ≡ false
    → is_chosen_by kind (shape_in rows 0 k) ≡ false
shape_unchosen rows kind k none =
    by_either (row_at rows 0 (masked k)) (row_at rows 0 any_kind) kind (row_unchosen rows kind (masked k) none)
    (row_unchosen rows kind any_kind none)

-- ---- shapes that are kept

abbrev pub keeps : Scope → ℕ → Attribute → Bool
keeps scope kind a = keeps_shape scope kind a.kind

keeps_each : (scope : Scope) (kind : ℕ) (all : List Attribute) → ((k : ℕ) → keeps_shape scope kind k ≡ true)
    → list_all (keeps scope kind) all ≡ true
keeps_each scope kind [] each = refl
keeps_each scope kind (a ∷ all) each = and_from _ _ (each a.kind) (keeps_each scope kind all each)

not_false : (b : Bool) → not b ≡ false → b ≡ true
not_false true is = refl
not_false false is = absurd (cc)

by_choice : (scope : Scope) (kind : ℕ) (is : Bool) → chooses scope.0 kind ≡ is
    → (is && not (keeps_shape scope kind kind && list_all (keeps scope kind) scope.1)) ≡ false
    → (keeps_shape scope kind kind ≡ true) × (list_all (keeps scope kind) scope.1 ≡ true)
by_choice scope kind true some late =
    and_parts (keeps_shape scope kind kind) (list_all (keeps scope kind) scope.1) (not_false _ late)
by_choice scope kind false none late =
    let each : (k : ℕ) → keeps_shape scope kind k ≡ true =
    λ k. ap (λ (b : Bool). not b || is_some (first_of (masked kind) scope.1)) (shape_unchosen scope.0 kind k none) in
    (each kind, keeps_each scope kind scope.1 each)

by_late : (is : Bool) (error : AttributeError) → (if is then Some error else None) ≡ None → is ≡ false
by_late true error none = absurd (cc)
by_late false error none = refl

keeps_all : (scope : Scope) (kind : ℕ) → late_error scope kind ≡ None
    → (keeps_shape scope kind kind ≡ true) × (list_all (keeps scope kind) scope.1 ≡ true)
keeps_all scope kind none =
    by_choice scope kind (chooses scope.0 kind) refl (by_late (is_late scope kind) _ none)

-- ---- the first attribute of a kind, with one more attribute

by_here : (b : Bool) (v : List ℕ) (old new : Option (List ℕ)) → is_some (if b then Some v else old) ≡ true
    → (is_some old ≡ true → new ≡ old) → (if b then Some v else new) ≡ (if b then Some v else old)
by_here true v old new is later = refl
by_here false v old new is later = later is

some_before : (kind : ℕ) (all more : List Attribute) → is_some (first_of kind all) ≡ true
    → first_of kind (all ++ more) ≡ first_of kind all
some_before kind [] more is = absurd (cc)
some_before kind (a ∷ all) more is =
    by_here (masked a.kind == kind) a.value (first_of kind all) (first_of kind (all ++ more)) is
    (some_before kind all more)

other_after : (kind : ℕ) (all : List Attribute) (a : Attribute) → masked a.kind ≢ kind
    → first_of kind (all ++ (a ∷ [])) ≡ first_of kind all
other_after kind [] a other = first_later kind a [] other
other_after kind (b ∷ all) a other =
    ap (λ (o : Option (List ℕ)). if masked b.kind == kind then Some b.value else o) (other_after kind all a other)

first_push : (kind : ℕ) (all : List Attribute) (a : Attribute) (is : Bool) → (kind == masked a.kind) ≡ is
    → (not is || is_some (first_of (masked a.kind) all)) ≡ true → first_of kind (all ++ (a ∷ [])) ≡ first_of kind all
first_push kind all a true same some =
    some_before kind all (a ∷ [])
    (ap (λ (k : ℕ). is_some (first_of k all)) (eqb-true kind (masked a.kind) same) ∙ some)
first_push kind all a false other some =
    other_after kind all a (λ same. (let is = eq-eqb kind (masked a.kind) (sym same) in absurd (cc)))

resolved_push : (rows : List Row) (all : List Attribute) (a : Attribute) (shape : Shape)
    → (not (is_chosen_by a.kind shape) || is_some (first_of (masked a.kind) all)) ≡ true
    → resolved (rows, all ++ (a ∷ [])) 0 shape ≡ resolved (rows, all) 0 shape
resolved_push rows all a (Chosen by policy) is =
    ap (choice_by rows policy) (first_push by all a (by == masked a.kind) refl is)
resolved_push rows all a (ChosenByNumber by policy) is =
    ap (number_by rows policy (shape_in rows 0 by)) (first_push by all a (by == masked a.kind) refl is)
resolved_push rows all a Flag is = refl
resolved_push rows all a U8 is = refl
resolved_push rows all a U16 is = refl
resolved_push rows all a U32 is = refl
resolved_push rows all a U64 is = refl
resolved_push rows all a I32 is = refl
resolved_push rows all a I64 is = refl
resolved_push rows all a Be16 is = refl
resolved_push rows all a Be32 is = refl
resolved_push rows all a Be64 is = refl
resolved_push rows all a BeI32 is = refl
resolved_push rows all a (ExactLen size) is = refl
resolved_push rows all a Ip is = refl
resolved_push rows all a NulStr is = refl
resolved_push rows all a Str is = refl
resolved_push rows all a (MinLen size) is = refl
resolved_push rows all a (Elements size) is = refl
resolved_push rows all a (Nested policy) is = refl
resolved_push rows all a (HeaderNested size policy) is = refl
resolved_push rows all a Bytes is = refl

shape_push : (rows : List Row) (all : List Attribute) (a : Attribute) (k : ℕ) → keeps_shape (rows, all) a.kind k ≡ true
    → shape_among (rows, all ++ (a ∷ [])) 0 k ≡ shape_among (rows, all) 0 k
shape_push rows all a k is = resolved_push rows all a (shape_in rows 0 k) is

reading_push : (rows : List Row) (all : List Attribute) (a : Attribute) (part : List Attribute)
    → list_all (keeps (rows, all) a.kind) part ≡ true
    → all_normalized (reading_in (rows, all ++ (a ∷ []))) part ≡ all_normalized (reading_in (rows, all)) part
unfolding all_normalized
reading_push rows all a [] is = refl
reading_push rows all a (b ∷ part) is =
    let parts = and_parts (keeps (rows, all) a.kind b) (list_all (keeps (rows, all) a.kind) part) is in
    ap (λ (s : Shape). with_first (option_map (attribute_with b.kind) (keep (is_shaped nest_levels rows s b.value) b.value))
    (all_normalized (reading_in (rows, all ++ (a ∷ []))) part)) (shape_push rows all a b.kind parts.0)
    ∙ ap (with_first (normalized (reading_in (rows, all)) b)) (reading_push rows all a part parts.1)

-- what was read before is read the same, and the attribute that is appended as if it came last
pub record ArePushed (rows : List Row) (all : List Attribute) (a : Attribute) : Type 0 where
  pub before : all_normalized (reading_in (rows, all ++ (a ∷ []))) all ≡ all_normalized (reading_in (rows, all)) all
  pub own : reading_in (rows, all ++ (a ∷ [])) a.kind a.value ≡ reading_in (rows, all) a.kind a.value

pub are_pushed : (rows : List Row) (all : List Attribute) (a : Attribute) → late_error (rows, all) a.kind ≡ None
    → ArePushed rows all a
are_pushed rows all a none =
    let parts = keeps_all (rows, all) a.kind none in
    record {
      before = reading_push rows all a all parts.1;
      own =
          ap (λ (s : Shape). keep (is_shaped nest_levels rows s a.value) a.value)
          (shape_push rows all a a.kind parts.0);
    }

-- ---- the loop over a block

pub keeps_step : (scope : Scope) (kind : ℕ) (whole : Bool) (bytes rest : List ℕ) (k : ℕ) (is : Bool)
    → whole ≡ list_all (keeps scope kind) (listed bytes) → Starts bytes (attribute_of bytes) rest
    → k ≡ (attribute_of bytes).kind → is ≡ keeps_shape scope kind k
    → whole ≡ (is && list_all (keeps scope kind) (listed rest))
keeps_step scope kind whole bytes rest k is so_far starts same tested =
    so_far ∙ ap (list_all (keeps scope kind)) (before_step bytes (attribute_of bytes) rest starts)
    ∙ ap (λ (n : ℕ). keeps_shape scope kind n && list_all (keeps scope kind) (listed rest)) (sym same)
    ∙ ap (λ (b : Bool). b && list_all (keeps scope kind) (listed rest)) (sym tested)
