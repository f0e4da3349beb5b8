use Rattle.std.proofs.Common.{ℕ, ◌+◌, List, ◌≡◌, ◌≢◌, ap, arith, drop, length-drop, subst, sym, ◌∙◌, Some}
use Rattle.std.proofs.lemmas.List.{drop-drop, drop_all}
use Rattle.netlink_attributes.specs.Attribute.{Attribute}
use Rattle.netlink_attributes.specs.Views.{attribute_of, length_field, masked, raw_kind}
use Rattle.netlink_shapes.specs.ListingLaws.{first_later}
use Rattle.netlink_shapes.specs.Listing.{first_of, listed}
use Rattle.netlink_shapes.specs.ListingLaws.{before_nothing, before_step}
use Rattle.netlink_shapes.specs.Whole.{IsWhole}
use Rattle.netlink_shapes.specs.WholeWalks.{whole_first, whole_next}
use Rattle.netlink_shapes.proofs.find.first_whole.Goals as goal

pub returns-then-nla_kind-kind-clause-some : goal.returns-then-nla_kind-kind-clause-some
returns-then-nla_kind-kind-clause-some c =
    let bytes : List ℕ = drop c.loop-at.at c.args.block.now in
    let left = length-drop c.loop-at.at c.args.block.now in
    let same : masked (raw_kind bytes) ≡ c.args.kind =
    ap (λ (b : List ℕ). masked (raw_kind b)) (sym c.attribute_at-nla.ensures.bytes) ∙ sym c.kind-nla_kind.ensures.number
    ∙ c.if-nla_kind-kind.true in
    c.loop-at.invariant.1
    ∙ whole_first c.args.kind bytes (omega (arith, left, c.loop-at-test.true)) c.loop-at.invariant.0 same
    ∙ ap (λ (b : List ℕ). Some (attribute_of b).value) (sym c.attribute_at-nla.ensures.bytes) ∙ ap Some (sym c.value.ensures.bytes)

pub loop-at-preserved : goal.loop-at-preserved
loop-at-preserved c =
    let bytes : List ℕ = drop c.loop-at.at c.args.block.now in
    let left = length-drop c.loop-at.at c.args.block.now in
    let end : ℕ = c.nla_align-at.result in
    let size : c.length.result ≡ length_field bytes =
    c.length.ensures.number ∙ ap length_field c.attribute_at-nla.ensures.bytes in
    let least = c.nla_align-at.ensures.least in
    let next =
    whole_next bytes end (omega (arith, left, c.loop-at-test.true)) c.loop-at.invariant.0 c.nla_align-at.ensures.multiple
    (omega (arith, size, least)) (omega (arith, size, least)) in
    let a : Attribute = attribute_of bytes in
    let other : masked a.kind ≢ c.args.kind =
    λ same. c.if-nla_kind-kind.false
    (c.kind-nla_kind.ensures.number ∙ ap (λ (b : List ℕ). masked (raw_kind b)) c.attribute_at-nla.ensures.bytes ∙ same) in
    let split : drop (c.loop-at.at + end) c.args.block.now ≡ drop end bytes = sym (drop-drop end c.loop-at.at c.args.block.now) in (
      subst IsWhole (sym split) next.whole,
      c.loop-at.invariant.1 ∙ ap (first_of c.args.kind) (before_step bytes a (drop end bytes) next.starts)
          ∙ first_later c.args.kind a (listed (drop end bytes)) other
          ∙ ap (λ (b : List ℕ). first_of c.args.kind (listed b)) (sym split),
    )

pub returns-clause-none : goal.returns-clause-none
returns-clause-none c =
    c.loop-at.invariant.1
    ∙ ap (first_of c.args.kind)
    (before_nothing (drop c.loop-at.at c.args.block.now)
    (drop_all c.loop-at.at c.args.block.now (omega (arith, c.loop-at-test.false))))
