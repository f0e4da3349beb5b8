-- The invariant of the loop that checks a block.
use Rattle.std.proofs.Common.{◌≡◌, ◌≢◌, ◌&&◌, ℕ, ◌-◌, Bool, true, false, List, [], length, refl, sym, ap, subst, ◌∙◌, Option, Some, None}
use Rattle.std.specs.List.{list_all}
use Rattle.std.specs.Prelude.{is_none, if◌then◌else◌}
use Rattle.std.proofs.lemmas.Bool.{and_parts}
use Rattle.netlink_attributes.specs.Attribute.{Attribute}
use Rattle.netlink_attributes.specs.Block.{IsCanonicalBlock}
use Rattle.netlink_bytes.specs.declared.error.DecodeError.{DecodeError}
use Rattle.netlink_attributes.specs.ReadingLaws.{attributes_in-fault, attributes_in-walk}
use Rattle.netlink_attributes.specs.Views.{attribute_of, length_field}
use Rattle.netlink_attributes.specs.Walk.{IsFault, Starts, Walk}
use Rattle.netlink_shapes.specs.Blocks.{all_normalized}
use Rattle.netlink_shapes.specs.ErrorLaws.{error_step, none_of, normalized_by_rows, rest_shaped, value_shaped}
use Rattle.netlink_shapes.specs.Errors.{rest_error, value_error}
use Rattle.netlink_shapes.specs.Listing.{listed_all}
use Rattle.netlink_shapes.specs.Shapes.{Row, Scope, all_shaped, are_shaped, fits_kind, is_block_shaped, nest_levels, reading_by, within}
use Rattle.netlink_shapes.specs.Fitting.{fits}
use Rattle.netlink_shapes.specs.declared.attribute_error.AttributeError.{AttributeError}
use Rattle.netlink_attributes.specs.ZeroPadding.{IsZeroPadded, canonical_cons}

-- ---- whether the attributes of a block have their shapes

shaped_step : (scope : Scope) (bytes : List ℕ) (a : Attribute) (rest : List ℕ) → Starts bytes a rest
    → are_shaped nest_levels scope 0 bytes ≡ (fits scope a && are_shaped nest_levels scope 0 rest)
shaped_step scope bytes a rest starts =
    sym (rest_shaped scope 0 bytes)
    ∙ ap (λ (o : Option AttributeError). is_none o) (error_step (value_error nest_levels scope 0) 0 0 bytes a rest starts)
    ∙ none_of (value_error nest_levels scope 0 (0 - length bytes) a.kind a.value) (rest_error scope 0 rest)
    ∙ ap (λ (b : Bool). b && is_none (rest_error scope 0 rest)) (value_shaped nest_levels scope 0 (0 - length bytes) a.kind a.value)
    ∙ ap (λ (b : Bool). fits scope a && b) (rest_shaped scope 0 rest)

shaped_malformed : (scope : Scope) (bytes : List ℕ) (e : DecodeError) → bytes ≢ [] → IsFault bytes e
    → are_shaped nest_levels scope 0 bytes ≡ false
shaped_malformed scope bytes e some is = ap (all_shaped (fits scope)) (attributes_in-fault bytes [] e (some, is))

pub shaped_nothing : (scope : Scope) (bytes : List ℕ) → bytes ≡ [] → are_shaped nest_levels scope 0 bytes ≡ true
shaped_nothing scope bytes none = ap (all_shaped (fits scope)) (attributes_in-walk bytes [] none)

-- if the attributes of a block have their shapes, the walk has no error and reading them changes
-- nothing
pub shaped_normalized : (rows : List Row) (block : List ℕ) (all : List Attribute) (malformed : Option DecodeError) → Walk block all malformed
    → is_block_shaped nest_levels rows 0 block ≡ true → (malformed ≡ None) × (all_normalized (reading_by rows all) all ≡ Some all)
shaped_normalized rows block all None walk shaped =
    let reads = attributes_in-walk block all walk in
    let each = sym (ap (all_shaped (fits (within rows block))) reads) ∙ shaped in
    let own : list_all (fits (rows, all)) all ≡ true =
    ap (λ (x : List Attribute). list_all (fits (rows, x)) all) (sym (listed_all block all reads)) ∙ each in
    (refl, normalized_by_rows (rows, all) all ∙ ap (λ (b : Bool). if b then Some all else None) own)
shaped_normalized rows block all (Some e) walk shaped =
    let none = ap (all_shaped (fits (within rows block))) (attributes_in-fault block all e walk) in
    absurd (cc)

pub none_is : {T : Type 0} (o : Option T) → is_none o ≡ true → o ≡ None
none_is None is = refl
none_is (Some x) is = absurd (cc)

-- such a block has no error
pub has_no_error : (scope : Scope) (end : ℕ) (block : List ℕ) → are_shaped nest_levels scope 0 block ≡ true
    → rest_error scope end block ≡ None
has_no_error scope end block shaped = none_is (rest_error scope end block) (rest_shaped scope end block ∙ shaped)

-- and any other block has one
pub has_error : (scope : Scope) (end : ℕ) (block : List ℕ) → are_shaped nest_levels scope 0 block ≡ false
    → rest_error scope end block ≢ None
has_error scope end block other none =
    let is = sym (ap (λ (o : Option AttributeError). is_none o) none) ∙ rest_shaped scope end block ∙ other in
    absurd (cc)

-- ---- the invariant: the rest of the block determines whether the whole has its shapes and is
-- canonical

pub record AreChecked (scope : Scope) (block rest : List ℕ) (canonical : Bool) : Type 0 where
  pub shaped : are_shaped nest_levels scope 0 block ≡ are_shaped nest_levels scope 0 rest
  pub whole : canonical ≡ true → IsCanonicalBlock rest → IsCanonicalBlock block

pub none_checked : (scope : Scope) (block rest : List ℕ) (canonical : Bool) → rest ≡ block → AreChecked scope block rest canonical
none_checked scope block rest canonical same =
    subst (λ (r : List ℕ). AreChecked scope block r canonical) (sym same) (record { shaped = refl; whole = λ yes is. is })

-- the next attribute, whose kind and value were read
at_next : (scope : Scope) (block bytes rest : List ℕ) (was : Bool) (kind : ℕ) (value : List ℕ) (is : Bool)
    → AreChecked scope block bytes was → Starts bytes (attribute_of bytes) rest
    → kind ≡ (attribute_of bytes).kind → value ≡ (attribute_of bytes).value → is ≡ fits_kind scope kind value
    → are_shaped nest_levels scope 0 block ≡ (is && are_shaped nest_levels scope 0 rest)
at_next scope block bytes rest was kind value is are starts same value_is tested =
    let a : Attribute = attribute_of bytes in
    are.shaped ∙ shaped_step scope bytes a rest starts
    ∙ ap (λ (b : Bool). b && are_shaped nest_levels scope 0 rest)
    (ap (λ (k : ℕ). fits_kind scope k a.value) (sym same) ∙ ap (fits_kind scope kind) (sym value_is) ∙ sym tested)

pub more_checked : (scope : Scope) (block bytes rest : List ℕ) (was padded new : Bool) (kind : ℕ) (value : List ℕ) (is : Bool)
    → AreChecked scope block bytes was → Starts bytes (attribute_of bytes) rest
    → kind ≡ (attribute_of bytes).kind → value ≡ (attribute_of bytes).value → is ≡ fits_kind scope kind value → is ≡ true
    → new ≡ (was && padded) → (padded ≡ true → IsZeroPadded bytes (length_field bytes))
    → AreChecked scope block rest new
more_checked scope block bytes rest was padded new kind value is are starts same value_is tested fit both zeros = record {
  shaped =
      at_next scope block bytes rest was kind value is are starts same value_is tested
      ∙ ap (λ (b : Bool). b && are_shaped nest_levels scope 0 rest) fit;
  whole = λ true_now canonical. (let p = and_parts was padded (sym both ∙ true_now) in
      are.whole p.0 (canonical_cons bytes (attribute_of bytes) rest starts (zeros p.1) canonical));
}

-- its value does not have the shape of its kind
pub misfit_next : (scope : Scope) (block bytes rest : List ℕ) (was : Bool) (kind : ℕ) (value : List ℕ) (is : Bool)
    → AreChecked scope block bytes was → Starts bytes (attribute_of bytes) rest
    → kind ≡ (attribute_of bytes).kind → value ≡ (attribute_of bytes).value → is ≡ fits_kind scope kind value → is ≡ false
    → are_shaped nest_levels scope 0 block ≡ false
misfit_next scope block bytes rest was kind value is are starts same value_is tested other =
    at_next scope block bytes rest was kind value is are starts same value_is tested
    ∙ ap (λ (b : Bool). b && are_shaped nest_levels scope 0 rest) other

pub malformed_next : (scope : Scope) (block bytes : List ℕ) (was : Bool) (e : DecodeError) → AreChecked scope block bytes was
    → bytes ≢ [] → IsFault bytes e → are_shaped nest_levels scope 0 block ≡ false
malformed_next scope block bytes was e are some is = are.shaped ∙ shaped_malformed scope bytes e some is

pub all_checked : (scope : Scope) (block bytes : List ℕ) (was : Bool) → AreChecked scope block bytes was → bytes ≡ []
    → are_shaped nest_levels scope 0 block ≡ true
all_checked scope block bytes was are none = are.shaped ∙ shaped_nothing scope bytes none

-- at the end of the block
pub ends_canonical : (scope : Scope) (block bytes : List ℕ) (was : Bool) → AreChecked scope block bytes was → bytes ≡ []
    → was ≡ true → IsCanonicalBlock block
ends_canonical scope block bytes was are none full = are.whole full ([], none)
