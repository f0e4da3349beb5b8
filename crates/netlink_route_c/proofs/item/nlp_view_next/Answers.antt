use Rattle.std.proofs.Common.{ap, arith, refl, sym, ◌∙◌}
use Rattle.netlink_family.specs.Shapes.{rows_in}
use Rattle.netlink_route_c.proofs.Items.{item_at, item_is_view, item_typed, kept_here, kept_there, misfit_is, not_malformed, not_misfit, table_of, walk_again}
use Rattle.netlink_route_c.specs.declared.item.Item.{Item}
use Rattle.netlink_route_c.proofs.item.nlp_view_next.Goals as goal

pub returns-in_default-step_at-clause-walks : goal.returns-in_default-step_at-clause-walks
returns-in_default-step_at-clause-walks c = λ walks.
    (let none = c.in_default-step_at.ensures.none in
    absurd (not_malformed (table_of c.begun.ensures) c.args.payload.now c.in-Some.block.now c.args.view.now c.args.walk.now none.0
    c.in-Some.ensures.some.1 (omega (arith, c.if-at-block.false)) none.1 walks))

pub returns-then-not-has_shape-clause-refuses : goal.returns-then-not-has_shape-clause-refuses
returns-then-not-has_shape-clause-refuses c = λ _.
    misfit_is (table_of c.begun.ensures) (rows_in c.rows_of.result.list.now) c.args.payload.now c.in-Some.block.now c.args.view.now c.args.walk.now
    c.in-Some-step_at.step.kind c.in-Some-step_at.step.next _ c.walked_shape-shape.result c.rows_of.ensures
    c.in-Some.ensures.some.1 c.in-Some-step_at.ensures.some c.walked_shape-shape.ensures.shape
    (sym c.has_shape.ensures ∙ c.if-not-has_shape.true)

pub returns-then-not-has_shape-clause-walks : goal.returns-then-not-has_shape-clause-walks
returns-then-not-has_shape-clause-walks c = λ walks.
    absurd (not_misfit (table_of c.begun.ensures) (rows_in c.rows_of.result.list.now) c.args.payload.now c.in-Some.block.now c.args.view.now c.args.walk.now
    c.in-Some-step_at.step.kind c.in-Some-step_at.step.next _ c.walked_shape-shape.result c.rows_of.ensures
    c.in-Some.ensures.some.1 c.in-Some-step_at.ensures.some c.walked_shape-shape.ensures.shape
    (sym c.has_shape.ensures ∙ c.if-not-has_shape.true) walks)

pub returns-clause-item : goal.returns-clause-item
returns-clause-item c = λ _.
    item_at c.args.payload.now c.in-Some.block.now c.args.view.now c.args.walk.now.at c.in-Some-step_at.step.kind
    c.in-Some-step_at.step.size c.in-Some-step_at.step.next c.item_of.result c.in-Some.ensures.some.0 c.in-Some.ensures.some.1
    c.in-Some-step_at.ensures.some c.in-Some-step_at.ensures.inside c.in-Some-step_at.ensures.forward
    (ap (λ (i : Item). i.kind) c.item_of.ensures) (ap (λ (i : Item). i.value) c.item_of.ensures)

pub returns-clause-typed : goal.returns-clause-typed
returns-clause-typed c = λ _ kept.
    item_typed (table_of c.begun.ensures) (rows_in c.rows_of.result.list.now) c.args.payload.now c.in-Some.block.now c.args.view.now c.args.walk.now.at
    c.in-Some-step_at.step.kind c.in-Some-step_at.step.size c.walked_shape-shape.result c.item_of.result c.rows_of.ensures
    c.in-Some.ensures.some.0 c.in-Some.ensures.some.1 c.in-Some-step_at.ensures.inside
    (c.walked_shape-shape.ensures.shape (kept_here (table_of c.begun.ensures) (rows_in c.rows_of.result.list.now) c.args.payload.now c.in-Some.block.now
    c.args.view.now c.args.walk.now c.rows_of.ensures c.in-Some.ensures.some.1 kept))
    (sym c.has_shape.ensures ∙ c.if-not-has_shape.false) c.item_of.ensures

pub returns-clause-again : goal.returns-clause-again
returns-clause-again c = λ walks _.
    (let here = item_at c.args.payload.now c.in-Some.block.now c.args.view.now c.args.walk.now.at c.in-Some-step_at.step.kind
    c.in-Some-step_at.step.size c.in-Some-step_at.step.next c.item_of.result c.in-Some.ensures.some.0 c.in-Some.ensures.some.1
    c.in-Some-step_at.ensures.some c.in-Some-step_at.ensures.inside c.in-Some-step_at.ensures.forward
    (ap (λ (i : Item). i.kind) c.item_of.ensures) (ap (λ (i : Item). i.value) c.item_of.ensures) in
    let kept = kept_here (table_of c.begun.ensures) (rows_in c.rows_of.result.list.now) c.args.payload.now c.in-Some.block.now c.args.view.now
    c.args.walk.now c.rows_of.ensures c.in-Some.ensures.some.1 walks.kept in
    let typed = item_typed (table_of c.begun.ensures) (rows_in c.rows_of.result.list.now) c.args.payload.now c.in-Some.block.now c.args.view.now
    c.args.walk.now.at c.in-Some-step_at.step.kind c.in-Some-step_at.step.size c.walked_shape-shape.result c.item_of.result
    c.rows_of.ensures c.in-Some.ensures.some.0 c.in-Some.ensures.some.1 c.in-Some-step_at.ensures.inside
    (c.walked_shape-shape.ensures.shape kept) (sym c.has_shape.ensures ∙ c.if-not-has_shape.false) c.item_of.ensures in
    let kept_on = kept_there (table_of c.begun.ensures) (rows_in c.rows_of.result.list.now) c.args.payload.now c.in-Some.block.now c.args.view.now
    c.walked_shape-shape.new.walk c.rows_of.ensures c.in-Some.ensures.some.1 (c.walked_shape-shape.ensures.kept kept) in (
      walk_again (table_of c.begun.ensures) c.args.payload.now c.args.view.now c.args.walk.now _ c.item_of.result c.in-Some-step_at.step.next here refl
          kept_on walks,
      item_is_view (table_of c.begun.ensures) c.args.payload.now c.args.view.now c.args.walk.now c.item_of.result
          c.in-Some-step_at.step.next here typed walks,
    ))
