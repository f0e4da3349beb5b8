use Rattle.std.proofs.Common.{ℕ, ◌+◌, ◌≤◌, ◌<◌, ◌%◌, List, ◌∷◌, ◌≡◌, ◌≢◌, ap, arith, drop, refl, subst, sym, ◌∙◌, Some, Bor}
use Rattle.std.proofs.lemmas.List.{drop_all, take_rest}
use Rattle.netlink_bytes.specs.NumberLaws.{IsBytes-drop}
use Rattle.netlink_bytes.specs.Numbers.{IsBytes}
use Rattle.netlink_attributes.specs.StartLaws.{starts_held}
use Rattle.netlink_attributes.specs.Views.{HoldsAttribute, attribute_of, length_field, masked, raw_kind, shown}
use Rattle.netlink_shapes.specs.ListingLaws.{first_here, first_later}
use Rattle.netlink_shapes.specs.Listing.{first_of, listed}
use Rattle.netlink_shapes.specs.ListingLaws.{before_malformed, before_nothing, before_step}
use Rattle.netlink_shapes.proofs.find.first_value.Goals as goal

-- what is listed where an attribute was seen, by its size and that size with the padding
read_step : (bytes seen : List ℕ) (size end : ℕ) → IsBytes bytes → HoldsAttribute bytes → seen ≡ bytes
    → size ≡ length_field seen → (size ≤ end) × (end < size + 4) → end % 4 ≡ 0
    → listed bytes ≡ attribute_of bytes ∷ listed (drop end bytes)
read_step bytes seen size end each whole view number least multiple =
    let is : size ≡ length_field bytes = number ∙ ap length_field view in
    before_step bytes (attribute_of bytes) (drop end bytes)
    (starts_held bytes end each whole (omega (arith, is, least)) (omega (arith, is, least)) multiple)

pub loop-nla-init : goal.loop-nla-init
loop-nla-init c = ((λ i. omega (arith, c.type_inv.block i)), refl)

pub returns-then-found-kind-clause-some : goal.returns-then-found-kind-clause-some
returns-then-found-kind-clause-some c =
    let bytes : List ℕ = c.loop-nla.rest.now in
    let view : shown c.in-Ok.nla ≡ bytes = ap (λ (b : Bor (List ℕ)). b.now) c.in-Ok.ensures.keeps in
    let end : ℕ = c.nla_align-size.result in
    let step =
    read_step bytes (shown c.in-Ok.nla) c.length.result end c.loop-nla.invariant.0 c.in-Ok.ensures.whole view
    c.length.ensures.number c.nla_align-size.ensures.least c.nla_align-size.ensures.multiple in
    let same : masked (attribute_of bytes).kind ≡ c.args.kind =
    ap (λ (b : List ℕ). masked (raw_kind b)) (sym view) ∙ sym c.kind-found.ensures.number ∙ c.if-found-kind.true in
    c.loop-nla.invariant.1 ∙ ap (first_of c.args.kind) step
    ∙ first_here c.args.kind (attribute_of bytes) (listed (drop end bytes)) same
    ∙ ap (λ (b : List ℕ). Some (attribute_of b).value) (sym view) ∙ ap Some (sym c.value.ensures.bytes)

pub returns-then-rest-size-clause-none : goal.returns-then-rest-size-clause-none
returns-then-rest-size-clause-none c =
    let bytes : List ℕ = c.loop-nla.rest.now in
    let view : shown c.in-Ok.nla ≡ bytes = ap (λ (b : Bor (List ℕ)). b.now) c.in-Ok.ensures.keeps in
    let end : ℕ = c.nla_align-size.result in
    let step =
    read_step bytes (shown c.in-Ok.nla) c.length.result end c.loop-nla.invariant.0 c.in-Ok.ensures.whole view
    c.length.ensures.number c.nla_align-size.ensures.least c.nla_align-size.ensures.multiple in
    let other : masked (attribute_of bytes).kind ≢ c.args.kind =
    λ same. c.if-found-kind.false (c.kind-found.ensures.number ∙ ap (λ (b : List ℕ). masked (raw_kind b)) view ∙ same) in
    c.loop-nla.invariant.1 ∙ ap (first_of c.args.kind) step
    ∙ first_later c.args.kind (attribute_of bytes) (listed (drop end bytes)) other
    ∙ ap (first_of c.args.kind) (before_nothing (drop end bytes) (drop_all end bytes (omega (arith, c.if-rest-size.true))))

pub loop-nla-preserved : goal.loop-nla-preserved
loop-nla-preserved c =
    let bytes : List ℕ = c.loop-nla.rest.now in
    let view : shown c.in-Ok.nla ≡ bytes = ap (λ (b : Bor (List ℕ)). b.now) c.in-Ok.ensures.keeps in
    let end : ℕ = c.nla_align-size.result in
    let step =
    read_step bytes (shown c.in-Ok.nla) c.length.result end c.loop-nla.invariant.0 c.in-Ok.ensures.whole view
    c.length.ensures.number c.nla_align-size.ensures.least c.nla_align-size.ensures.multiple in
    let other : masked (attribute_of bytes).kind ≢ c.args.kind =
    λ same. c.if-found-kind.false (c.kind-found.ensures.number ∙ ap (λ (b : List ℕ). masked (raw_kind b)) view ∙ same) in
    let rest = sym (take_rest bytes end) in (
      subst IsBytes rest (IsBytes-drop end bytes c.loop-nla.invariant.0),
      c.loop-nla.invariant.1 ∙ ap (first_of c.args.kind) step
          ∙ first_later c.args.kind (attribute_of bytes) (listed (drop end bytes)) other
          ∙ ap (λ (b : List ℕ). first_of c.args.kind (listed b)) rest,
    )

pub returns-in-Err-clause-none : goal.returns-in-Err-clause-none
returns-in-Err-clause-none c =
    c.loop-nla.invariant.1 ∙ ap (first_of c.args.kind) (before_malformed c.loop-nla.rest.now _ c.in-Err.ensures.refuses)
