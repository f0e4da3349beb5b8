use Rattle.std.proofs.Common.{◌≡◌, ℕ, List, ap, refl, ◌∙◌}
use Rattle.netlink_attributes.specs.Attribute.{Attribute}
use Rattle.netlink_attributes.specs.Steps.{unread}
use Rattle.netlink_attributes.specs.Views.{attribute_of, raw_kind}
use Rattle.netlink_shapes.specs.NestLaws.{shaped_has, shaped_nests}
use Rattle.netlink_shapes.specs.Shapes.{nest_levels, rows_in, shape_among, within}
use Rattle.netlink_blocks.specs.IterationLaws.{shaped_good, shaped_rest, shaped_value}
use Rattle.netlink_blocks.proofs.attributes.AttributesIterator.next.Goals as goal

pub invariant_of-self : goal.invariant_of-self
invariant_of-self c =
    let all = c.args.self.now in
    record {
      shaped =
          shaped_rest (within (rows_in all.rows.list.now) all.block.now) all.policy (unread all.walk) c.next.result (unread c.next.new.self) c.next.ensures.steps all.shaped;
      kept = all.kept;
      chosen = all.chosen;
    }

pub invariant_of-self-in-Ok-clause-shaped : goal.invariant_of-self-in-Ok-clause-shaped
invariant_of-self-in-Ok-clause-shaped c =
    let all = c.args.self.now in
    shaped_rest (within (rows_in all.rows.list.now) all.block.now) all.policy (unread all.walk) c.next.result (unread c.next.new.self) c.next.ensures.steps all.shaped

pub value_in-requires : goal.value_in-requires
value_in-requires c =
    let all = c.args.self.now in
    let step = rw c.in-Ok.is at c.in_ok-item.ensures.steps in
    let fit =
    shaped_value (within (rows_in all.rows.list.now) all.block.now) all.policy (unread all.walk) (unread c.next.new.self)
    c.raw_kind-kind.result c.value.result.now c.cached_shape_among-shape.result step.2
    (c.raw_kind-kind.ensures.number ∙ ap raw_kind step.0)
    (c.value.ensures.bytes ∙ ap (λ (b : List ℕ). (attribute_of b).value) step.0)
    c.cached_shape_among-shape.ensures.shape all.shaped in
    record {
      shape = shaped_has nest_levels (rows_in all.rows.list.now) c.cached_shape_among-shape.result c.value.result.now fit;
      nest = shaped_nests (rows_in all.rows.list.now) c.cached_shape_among-shape.result c.value.result.now fit;
    }

pub returns-in-Ok-clause-steps : goal.returns-in-Ok-clause-steps
returns-in-Ok-clause-steps c =
    let all = c.args.self.now in
    let step = rw c.in-Ok.is at c.in_ok-item.ensures.steps in
    let a : Attribute = attribute_of (unread all.walk) in
    let kind : c.raw_kind-kind.result ≡ a.kind = c.raw_kind-kind.ensures.number ∙ ap raw_kind step.0 in
    let value : c.value.result.now ≡ a.value =
    c.value.ensures.bytes ∙ ap (λ (b : List ℕ). (attribute_of b).value) step.0 in (
      (
        a,
        step.2,
        kind,
        rw value at c.value_in.ensures.value_is,
        c.value_in.ensures.shape ∙ c.cached_shape_among-shape.ensures.shape
            ∙ ap (λ (k : ℕ). shape_among (within (rows_in all.rows.list.now) all.block.now) all.policy k) kind,
        c.value_in.ensures.nest,
      ),
      refl,
      refl,
      refl,
    )

pub returns-in-Err-clause-steps : goal.returns-in-Err-clause-steps
returns-in-Err-clause-steps c =
    let all = c.args.self.now in
    let step = rw c.in-Err.is at c.in_ok-item.ensures.steps in
    absurd (shaped_good (within (rows_in all.rows.list.now) all.block.now) all.policy (unread all.walk) _ step.0 step.1 all.shaped)
