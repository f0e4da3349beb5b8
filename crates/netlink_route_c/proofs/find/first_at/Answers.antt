use Rattle.std.proofs.Common.{ℕ, ◌+◌, ◌≤◌, ◌<◌, ◌%◌, List, ◌∷◌, ◌≡◌, ◌≢◌, ap, arith, drop, length-drop, subst, sym, ◌∙◌, Some, Bor}
use Rattle.std.proofs.lemmas.List.{drop-drop, drop_all, take_rest}
use Rattle.netlink_family.specs.Listing.{first_of, listed}
use Rattle.netlink_family.specs.ListingLaws.{before_malformed, before_nothing, before_step, first_here, first_later}
use Rattle.netlink_packet_core.specs.NumberLaws.{IsBytes-drop}
use Rattle.netlink_packet_core.specs.Numbers.{IsBytes}
use Rattle.netlink_packet_core.specs.StartLaws.{starts_held}
use Rattle.netlink_packet_core.specs.Views.{HoldsAttribute, attribute_of, length_field, masked, raw_kind, shown}
use Rattle.netlink_packet_core.specs.Walk.{IsFault}
use Rattle.netlink_route_c.proofs.find.first_at.Goals as goal

-- what is listed where an attribute was seen, by its size and that size with the padding
read_step : (bytes seen : List ℕ) (size end : ℕ) → IsBytes bytes → HoldsAttribute bytes → seen ≡ bytes
    → size ≡ length_field seen → (size ≤ end) × (end < size + 4) → end % 4 ≡ 0
    → listed bytes ≡ attribute_of bytes ∷ listed (drop end bytes)
read_step bytes seen size end each whole view number least multiple =
    let is : size ≡ length_field bytes = number ∙ ap length_field view in
    before_step bytes (attribute_of bytes) (drop end bytes)
    (starts_held bytes end each whole (omega (arith, is, least)) (omega (arith, is, least)) multiple)

-- the first of a kind is not the attribute that was seen
other_first : (kind found : ℕ) (bytes seen : List ℕ) (size end : ℕ) → IsBytes bytes → HoldsAttribute bytes → seen ≡ bytes
    → found ≡ masked (raw_kind seen) → found ≢ kind → size ≡ length_field seen → (size ≤ end) × (end < size + 4) → end % 4 ≡ 0
    → first_of kind (listed bytes) ≡ first_of kind (listed (drop end bytes))
other_first kind found bytes seen size end each held view is other number least multiple =
    ap (first_of kind) (read_step bytes seen size end each held view number least multiple)
    ∙ first_later kind (attribute_of bytes) (listed (drop end bytes))
    (λ same. other (is ∙ ap (λ (b : List ℕ). masked (raw_kind b)) view ∙ same))

-- or it is
this_first : (kind found : ℕ) (bytes seen : List ℕ) (end : ℕ) → seen ≡ bytes → found ≡ masked (raw_kind seen) → found ≡ kind → listed bytes ≡ attribute_of bytes ∷ listed (drop end bytes)
    → first_of kind (listed bytes) ≡ Some (attribute_of bytes).value
this_first kind found bytes seen end view is same step =
    ap (first_of kind) step
    ∙ first_here kind (attribute_of bytes) (listed (drop end bytes))
    (ap (λ (b : List ℕ). masked (raw_kind b)) (sym view) ∙ sym is ∙ same)

pub returns-then-found-kind-clause-some : goal.returns-then-found-kind-clause-some
returns-then-found-kind-clause-some c =
    let bytes : List ℕ = drop c.loop-at.at c.args.block.now in
    let each : IsBytes bytes = IsBytes-drop c.loop-at.at c.args.block.now (λ i. omega (arith, c.type_inv.block i)) in
    let view : shown c.in-Ok.nla ≡ bytes =
    ap (λ (b : Bor (List ℕ)). b.now) c.in-Ok.ensures.keeps ∙ take_rest c.args.block.now c.loop-at.at in
    let whole : HoldsAttribute bytes = subst HoldsAttribute (take_rest c.args.block.now c.loop-at.at) c.in-Ok.ensures.whole in
    let size : ℕ = c.nla_align-size.result in
    c.loop-at.invariant
    ∙ this_first c.args.kind c.kind-found.result bytes (shown c.in-Ok.nla) size view c.kind-found.ensures.number c.if-found-kind.true
    (read_step bytes (shown c.in-Ok.nla) c.length.result size each whole view
    c.length.ensures.number c.nla_align-size.ensures.least c.nla_align-size.ensures.multiple)

pub returns-then-block-at-clause-none : goal.returns-then-block-at-clause-none
returns-then-block-at-clause-none c =
    let bytes : List ℕ = drop c.loop-at.at c.args.block.now in
    let each : IsBytes bytes = IsBytes-drop c.loop-at.at c.args.block.now (λ i. omega (arith, c.type_inv.block i)) in
    let view : shown c.in-Ok.nla ≡ bytes =
    ap (λ (b : Bor (List ℕ)). b.now) c.in-Ok.ensures.keeps ∙ take_rest c.args.block.now c.loop-at.at in
    let whole : HoldsAttribute bytes = subst HoldsAttribute (take_rest c.args.block.now c.loop-at.at) c.in-Ok.ensures.whole in
    let size : ℕ = c.nla_align-size.result in
    let left = length-drop c.loop-at.at c.args.block.now in
    c.loop-at.invariant
    ∙ other_first c.args.kind c.kind-found.result bytes (shown c.in-Ok.nla) c.length.result size each whole view
    c.kind-found.ensures.number c.if-found-kind.false c.length.ensures.number c.nla_align-size.ensures.least
    c.nla_align-size.ensures.multiple
    ∙ ap (first_of c.args.kind) (before_nothing (drop size bytes) (drop_all size bytes (omega (arith, left, c.if-block-at.true))))

pub loop-at-preserved : goal.loop-at-preserved
loop-at-preserved c =
    let bytes : List ℕ = drop c.loop-at.at c.args.block.now in
    let each : IsBytes bytes = IsBytes-drop c.loop-at.at c.args.block.now (λ i. omega (arith, c.type_inv.block i)) in
    let view : shown c.in-Ok.nla ≡ bytes =
    ap (λ (b : Bor (List ℕ)). b.now) c.in-Ok.ensures.keeps ∙ take_rest c.args.block.now c.loop-at.at in
    let whole : HoldsAttribute bytes = subst HoldsAttribute (take_rest c.args.block.now c.loop-at.at) c.in-Ok.ensures.whole in
    let size : ℕ = c.nla_align-size.result in
    c.loop-at.invariant
    ∙ other_first c.args.kind c.kind-found.result bytes (shown c.in-Ok.nla) c.length.result size each whole view
    c.kind-found.ensures.number c.if-found-kind.false c.length.ensures.number c.nla_align-size.ensures.least
    c.nla_align-size.ensures.multiple
    ∙ ap (λ (b : List ℕ). first_of c.args.kind (listed b)) (drop-drop size c.loop-at.at c.args.block.now)

pub returns-in-Err-clause-none : goal.returns-in-Err-clause-none
returns-in-Err-clause-none c =
    c.loop-at.invariant
    ∙ ap (first_of c.args.kind)
    (before_malformed (drop c.loop-at.at c.args.block.now) c.in-Err.field-0
    (subst (λ (b : List ℕ). IsFault b c.in-Err.field-0) (take_rest c.args.block.now c.loop-at.at) c.in-Err.ensures.refuses))

pub returns-clause-none : goal.returns-clause-none
returns-clause-none c =
    c.loop-at.invariant
    ∙ ap (first_of c.args.kind)
    (before_nothing (drop c.loop-at.at c.args.block.now)
    (drop_all c.loop-at.at c.args.block.now (omega (arith, c.loop-at-test.false))))
