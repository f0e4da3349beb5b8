use Rattle.std.proofs.Common.{arith, rules, sym, ap, ◌∙◌, ◌≡◌, ◌<◌, ◌-◌, ◌+◌, ◌&&◌, length, List, ℕ, Option, Some, refl, true, false}
use Rattle.std.specs.Prelude.{is_none, is_some}
use Rattle.std.proofs.lemmas.Bool.{and_parts}
use Rattle.netlink_attributes.specs.Steps.{unread}
use Rattle.netlink_attributes.specs.Views.{attribute_of, length_field}
use Rattle.netlink_shapes.specs.ErrorLaws.{value_deep, value_flat, value_nest, value_other}
use Rattle.netlink_shapes.specs.Shapes.{has_shape, nest_of, rows_in, within}
use Rattle.netlink_shapes.specs.Errors.{error_at, error_in, nest_error}
use Rattle.netlink_shapes.specs.Choices.{none_chosen}
use Rattle.netlink_shapes.specs.declared.attribute_error.Reason.{Reason}
use Rattle.netlink_shapes.proofs.FirstErrors.{at_attribute, malformed_here, fine_ends, fine_later, first_found, is_nothing, none_found}
use Rattle.netlink_shapes.proofs.attribute_error.+errors.Goals as goal

pub rest_error-returns-in-None : goal.rest_error-returns-in-None
rest_error-returns-in-None t c = λ around same.
    let none = sym c.policy_of.ensures ∙ c.in-None.is in
    let has : has_shape c.args.shape c.args.value.now ≡ false =
    sym (ap (λ (n : Option ℕ). is_none n && has_shape c.args.shape c.args.value.now) none) ∙ c.requires.other in
    ap Some c.wrong_shape.ensures
    ∙ sym (value_other c.args.levels (within (rows_in c.args.rows.list.now) around) c.args.policy c.args.at c.args.kind c.args.value.now c.args.shape
    same has)

pub rest_error-returns-then-not-has_shape : goal.rest_error-returns-then-not-has_shape
rest_error-returns-then-not-has_shape t c = λ around same.
    let has : has_shape c.args.shape c.args.value.now ≡ false = search rules in
    ap Some c.wrong_shape-then-not-has_shape.ensures
    ∙ sym (value_other c.args.levels (within (rows_in c.args.rows.list.now) around) c.args.policy c.args.at c.args.kind c.args.value.now c.args.shape
    same has)

pub rest_error-returns-then-levels-eq0 : goal.rest_error-returns-then-levels-eq0
rest_error-returns-then-levels-eq0 t c = λ around same.
    let has : has_shape c.args.shape c.args.value.now ≡ true = search rules in
    sym (value_deep c.args.levels (within (rows_in c.args.rows.list.now) around) c.args.policy c.args.at c.args.kind c.args.value.now c.args.shape c.in-Some.inner
    same (sym c.policy_of.ensures ∙ c.in-Some.is) has (omega arith))

pub rest_error-returns-else-levels-eq0 : goal.rest_error-returns-else-levels-eq0
rest_error-returns-else-levels-eq0 t c = λ around same.
    let has : has_shape c.args.shape c.args.value.now ≡ true = search rules in
    let some : 0 < c.args.levels = omega arith in
    c.error_in.ensures
    ∙ ap (nest_error (c.args.levels - 1) (rows_in c.args.rows.list.now) c.in-Some.inner (c.args.at + 4 + length c.args.value.now)) c.nest_block-block.ensures
    ∙ sym (value_nest c.args.levels (within (rows_in c.args.rows.list.now) around) c.args.policy c.args.at c.args.kind c.args.value.now c.args.shape c.in-Some.inner
    same (sym c.policy_of.ensures ∙ c.in-Some.is) has some)

pub shape_error-returns-then-is_fine : goal.shape_error-returns-then-is_fine
shape_error-returns-then-is_fine t c = λ around same.
    let fine = and_parts (is_none (nest_of c.args.shape)) (has_shape c.args.shape c.args.value.now) (sym c.is_fine.ensures ∙ c.if-is_fine.true) in
    sym (value_flat c.args.levels (within (rows_in c.args.rows.list.now) around) c.args.policy c.args.at c.args.kind c.args.value.now c.args.shape
    same (is_nothing (nest_of c.args.shape) fine.0) fine.1)

pub error_in-loop-item-init : goal.error_in-loop-item-init
error_in-loop-item-init t c = (search rules, none_chosen (within (rows_in c.args.rows.list.now) c.args.block.now) c.args.policy)

pub error_in-returns-then-is_some : goal.error_in-returns-then-is_some
error_in-returns-then-is_some t c =
    let step = rw c.in-Ok.is at c.in-Some.ensures.steps in
    let bytes : List ℕ = unread c.loop-item.item-iterator in
    let kind : c.raw_kind-kind.result ≡ (attribute_of bytes).kind = c.raw_kind-kind.ensures.number ∙ ap (λ (b : List ℕ). (attribute_of b).kind) step.0 in
    let value : c.value.result.now ≡ (attribute_of bytes).value = c.value.ensures.bytes ∙ ap (λ (b : List ℕ). (attribute_of b).value) step.0 in
    let is : is_some c.shape_error-error.result ≡ true = search rules in
    sym (at_attribute c.args.levels (within (rows_in c.args.rows.list.now) c.args.block.now) c.args.policy c.args.end c.args.block.now c.loop-item.left bytes (unread c.next.new.self)
    (c.args.end - c.loop-item.left) c.raw_kind-kind.result c.value.result.now c.shape_error-error.result c.loop-item.invariant.0 step.2 refl kind value
    (c.shape_error-error.ensures c.args.block.now c.own_shape_among-shape.ensures.shape)
    ∙ first_found c.shape_error-error.result (error_in c.args.levels (within (rows_in c.args.rows.list.now) c.args.block.now) c.args.policy c.args.end (unread c.next.new.self)) is)

pub error_in-loop-item-preserved : goal.error_in-loop-item-preserved
error_in-loop-item-preserved t c =
    let step = rw c.in-Ok.is at c.in-Some.ensures.steps in
    let bytes : List ℕ = unread c.loop-item.item-iterator in
    let kind : c.raw_kind-kind.result ≡ (attribute_of bytes).kind = c.raw_kind-kind.ensures.number ∙ ap (λ (b : List ℕ). (attribute_of b).kind) step.0 in
    let value : c.value.result.now ≡ (attribute_of bytes).value = c.value.ensures.bytes ∙ ap (λ (b : List ℕ). (attribute_of b).value) step.0 in
    let is : is_some c.shape_error-error.result ≡ false = search rules in (
      fine_later c.args.levels (within (rows_in c.args.rows.list.now) c.args.block.now) c.args.policy c.args.end c.args.block.now c.loop-item.left bytes (unread c.next.new.self)
          (c.args.end - c.loop-item.left) c.raw_kind-kind.result c.value.result.now c.shape_error-error.result c.length.result c.left_after-left.result
          c.loop-item.invariant.0 step.2 refl kind value (c.shape_error-error.ensures c.args.block.now c.own_shape_among-shape.ensures.shape) (none_found c.shape_error-error.result is)
          (c.length.ensures.number ∙ ap length_field step.0) c.left_after-left.ensures,
      c.own_shape_among-shape.ensures.choices,
    )

pub error_in-returns-in-Err : goal.error_in-returns-in-Err
error_in-returns-in-Err t c =
    let step = rw c.in-Err.is at c.in-Some.ensures.steps in
    let why = c.decode_reason.ensures in
    ap (λ (w : Reason). Some (error_at c.args.policy (c.args.end - c.loop-item.left) w)) why
    ∙ sym (malformed_here c.args.levels (within (rows_in c.args.rows.list.now) c.args.block.now) c.args.policy c.args.end c.args.block.now c.loop-item.left
    (unread c.loop-item.item-iterator) (c.args.end - c.loop-item.left) c.in-Err.malformed c.loop-item.invariant.0 refl step.0 step.1)

pub error_in-returns : goal.error_in-returns
error_in-returns t c =
    sym (fine_ends c.args.levels (within (rows_in c.args.rows.list.now) c.args.block.now) c.args.policy c.args.end c.args.block.now c.loop-item.left
    (unread c.loop-item.item-iterator) c.loop-item.invariant.0 c.in-None.ensures.steps.0)
