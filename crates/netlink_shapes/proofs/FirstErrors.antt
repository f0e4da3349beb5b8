-- The invariant of the loop that looks for the first error of a block.
use Rattle.std.proofs.Common.{◌≡◌, ◌≢◌, ℕ, ◌-◌, ◌≤◌, List, [], length, refl, sym, ap, ◌∙◌, arith, Option, Some, None, true, false}
use Rattle.std.specs.Prelude.{is_none, is_some}
use Rattle.netlink_attributes.specs.Attribute.{Attribute}
use Rattle.netlink_bytes.specs.declared.error.DecodeError.{DecodeError}
use Rattle.netlink_attributes.specs.StartLaws.{starts-length}
use Rattle.netlink_attributes.specs.Views.{attribute_of, length_field}
use Rattle.netlink_attributes.specs.Walk.{IsFault, Starts}
use Rattle.netlink_shapes.specs.ErrorLaws.{left_after_start, error_malformed, error_nothing, error_step}
use Rattle.netlink_shapes.specs.Errors.{decode_reason, error_at, error_in, left_after, value_error}
use Rattle.netlink_shapes.specs.Shapes.{Scope, or_first}
use Rattle.netlink_shapes.specs.declared.attribute_error.AttributeError.{AttributeError}

-- the invariant: the attributes before the rest have no error, and `left` is the length of the rest
pub record AreFine (levels : ℕ) (scope : Scope) (policy end : ℕ) (block : List ℕ) (left : ℕ) (rest : List ℕ) : Type 0 where
  pub same : error_in levels scope policy end block ≡ error_in levels scope policy end rest
  pub counted : left ≡ length rest
  pub within : length rest ≤ end

-- the step over an attribute whose kind and value were read
pub at_attribute : (levels : ℕ) (scope : Scope) (policy end : ℕ) (block : List ℕ) (left : ℕ) (bytes rest : List ℕ)
    (at kind : ℕ) (value : List ℕ) (found : Option AttributeError)
    → AreFine levels scope policy end block left bytes → Starts bytes (attribute_of bytes) rest
    → at ≡ end - left → kind ≡ (attribute_of bytes).kind → value ≡ (attribute_of bytes).value
    → found ≡ value_error levels scope policy at kind value
    → error_in levels scope policy end block ≡ or_first found (error_in levels scope policy end rest)
at_attribute levels scope policy end block left bytes rest at kind value found fine starts place same is finds =
    let a : Attribute = attribute_of bytes in
    fine.same ∙ error_step (value_error levels scope policy) policy end bytes a rest starts
    ∙ ap (λ (o : Option AttributeError). or_first o (error_in levels scope policy end rest))
    (ap (λ (n : ℕ). value_error levels scope policy (end - n) a.kind a.value) (sym fine.counted)
    ∙ ap (λ (n : ℕ). value_error levels scope policy n a.kind a.value) (sym place)
    ∙ ap (λ (k : ℕ). value_error levels scope policy at k a.value) (sym same)
    ∙ ap (value_error levels scope policy at kind) (sym is) ∙ sym finds)

-- an attribute without an error is passed
pub fine_later : (levels : ℕ) (scope : Scope) (policy end : ℕ) (block : List ℕ) (left : ℕ) (bytes rest : List ℕ)
    (at kind : ℕ) (value : List ℕ) (found : Option AttributeError) (field new : ℕ)
    → AreFine levels scope policy end block left bytes → Starts bytes (attribute_of bytes) rest
    → at ≡ end - left → kind ≡ (attribute_of bytes).kind → value ≡ (attribute_of bytes).value
    → found ≡ value_error levels scope policy at kind value → found ≡ None → field ≡ length_field bytes → new ≡ left_after left field
    → AreFine levels scope policy end block new rest
fine_later levels scope policy end block left bytes rest at kind value found field new fine starts place same is finds none number less =
    let size = starts-length bytes (attribute_of bytes) rest starts in
    let within = fine.within in
    record {
      same =
          at_attribute levels scope policy end block left bytes rest at kind value found fine starts place same is finds
          ∙ ap (λ (o : Option AttributeError). or_first o (error_in levels scope policy end rest)) none;
      counted =
          less ∙ ap (left_after left) number ∙ ap (λ (n : ℕ). left_after n (length_field bytes)) fine.counted
          ∙ left_after_start bytes (attribute_of bytes) rest starts;
      within = omega arith;
    }

-- the walk ends with an error
pub malformed_here : (levels : ℕ) (scope : Scope) (policy end : ℕ) (block : List ℕ) (left : ℕ) (bytes : List ℕ) (at : ℕ) (e : DecodeError)
    → AreFine levels scope policy end block left bytes → at ≡ end - left → bytes ≢ [] → IsFault bytes e
    → error_in levels scope policy end block ≡ Some (error_at policy at (decode_reason e))
malformed_here levels scope policy end block left bytes at e fine place some is =
    fine.same ∙ error_malformed (value_error levels scope policy) policy end bytes e some is
    ∙ ap (λ (n : ℕ). Some (error_at policy (end - n) (decode_reason e))) (sym fine.counted)
    ∙ ap (λ (n : ℕ). Some (error_at policy n (decode_reason e))) (sym place)

-- at the end of the block there was no error
pub fine_ends : (levels : ℕ) (scope : Scope) (policy end : ℕ) (block : List ℕ) (left : ℕ) (bytes : List ℕ)
    → AreFine levels scope policy end block left bytes → bytes ≡ [] → error_in levels scope policy end block ≡ None
fine_ends levels scope policy end block left bytes fine none =
    fine.same ∙ error_nothing (value_error levels scope policy) policy end bytes none

-- ---- what the loop has found

pub none_found : {T : Type 0} (o : Option T) → is_some o ≡ false → o ≡ None
none_found None is = refl
none_found (Some x) is = absurd (cc)

pub is_nothing : {T : Type 0} (o : Option T) → is_none o ≡ true → o ≡ None
is_nothing None is = refl
is_nothing (Some x) is = absurd (cc)

pub first_found : {T : Type 0} (o later : Option T) → is_some o ≡ true → or_first o later ≡ o
first_found None later is = absurd (cc)
first_found (Some x) later is = refl
