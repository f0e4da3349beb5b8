-- Steps of a walk without an error.
use Rattle.std.proofs.Common.{◌≡◌, ◌∙◌, ℕ, ◌+◌, ◌<◌, ◌≤◌, ◌%◌, List, [], ◌∷◌, length, drop, ap, sym, subst, arith, None, Some}
use Rattle.netlink_attributes.specs.Attribute.{Attribute, padded_size}
use Rattle.netlink_attributes.specs.StartLaws.{starts-attribute_of, starts-length, starts-length_field, starts-rest}
use Rattle.netlink_attributes.specs.Views.{HoldsAttribute, attribute_of, length_field, masked}
use Rattle.netlink_attributes.specs.Walk.{Starts, Walk}
use Rattle.netlink_shapes.specs.ListingLaws.{first_here}
use Rattle.netlink_shapes.specs.Listing.{first_of, listed}
use Rattle.netlink_shapes.specs.ListingLaws.{before_step}
use Rattle.netlink_shapes.specs.Whole.{IsWhole}

-- bytes, if there are any, start with an attribute
pub whole_here : (bytes : List ℕ) → 0 < length bytes → IsWhole bytes → HoldsAttribute bytes
whole_here bytes some ([], walk) = absurd (omega (arith, ap length walk, some))
whole_here bytes some (a ∷ more, (rest, starts, walk)) =
    let field = starts-length_field bytes a rest starts in
    let size = starts-length bytes a rest starts in
    record { header = omega arith; least = omega arith; most = omega arith }

-- which the rest of the walk follows
pub record Next (bytes : List ℕ) (end : ℕ) : Type 0 where
  pub starts : Starts bytes (attribute_of bytes) (drop end bytes)
  pub whole : IsWhole (drop end bytes)

pub whole_next : (bytes : List ℕ) (end : ℕ) → 0 < length bytes → IsWhole bytes → end % 4 ≡ 0
    → length_field bytes ≤ end → end < length_field bytes + 4 → Next bytes end
whole_next bytes end some ([], walk) multiple least most = absurd (omega (arith, ap length walk, some))
whole_next bytes end some (a ∷ more, (rest, starts, walk)) multiple least most =
    let field = starts-length_field bytes a rest starts in
    let same : attribute_of bytes ≡ a = starts-attribute_of bytes a rest starts in
    let size : padded_size a ≡ end = omega arith in
    let behind : rest ≡ drop end bytes =
    starts-rest bytes a rest starts ∙ ap (λ (n : ℕ). drop n bytes) size in
    record {
      starts =
          subst (λ (r : List ℕ). Starts bytes (attribute_of bytes) r) behind
          (subst (λ (x : Attribute). Starts bytes x rest) (sym same) starts);
      whole = (more, subst (λ (r : List ℕ). Walk r more None) behind walk);
    }

-- the first attribute of its kind
pub whole_first : (kind : ℕ) (bytes : List ℕ) → 0 < length bytes → IsWhole bytes
    → masked (attribute_of bytes).kind ≡ kind → first_of kind (listed bytes) ≡ Some (attribute_of bytes).value
whole_first kind bytes some ([], walk) is = absurd (omega (arith, ap length walk, some))
whole_first kind bytes some (a ∷ more, (rest, starts, walk)) is =
    let same : a ≡ attribute_of bytes = sym (starts-attribute_of bytes a rest starts) in
    ap (first_of kind) (before_step bytes a rest starts)
    ∙ first_here kind a (listed rest) (ap (λ (x : Attribute). masked x.kind) same ∙ is)
    ∙ ap (λ (x : Attribute). Some x.value) same
