use Rattle.std.proofs.Common.{arith, rules, refl, sym, ap, ◌∙◌, ◌≡◌, ◌<◌, ◌-◌, [], length, List, ℕ, true, false}
use Rattle.std.proofs.lemmas.List.{nil_from_length}
use Rattle.netlink_attributes.specs.Steps.{unread}
use Rattle.netlink_attributes.specs.Views.{attribute_of}
use Rattle.netlink_shapes.specs.NestLaws.{flat_step}
use Rattle.netlink_shapes.specs.Choices.{none_chosen}
use Rattle.netlink_shapes.specs.Shapes.{are_shaped, has_shape, is_block_shaped, nest_block, rows_in, within}
use Rattle.netlink_shapes.proofs.NestChecking.{end_shaped, fault_shaped, misshaped, nest_step, next_shaped, too_deep}
use Rattle.netlink_shapes.proofs.nest.+nests.Goals as goal

pub is_shaped-returns-then-not-has_shape : goal.is_shaped-returns-then-not-has_shape
is_shaped-returns-then-not-has_shape t c =
    let has : has_shape c.args.shape c.args.value.now ≡ false = search rules in
    sym (misshaped c.args.levels (rows_in c.args.rows.list.now) c.args.shape c.args.value.now has)

pub is_shaped-returns-in-None : goal.is_shaped-returns-in-None
is_shaped-returns-in-None t c =
    let has : has_shape c.args.shape c.args.value.now ≡ true = search rules in
    sym (flat_step c.args.levels (rows_in c.args.rows.list.now) c.args.shape c.args.value.now (sym c.policy_of.ensures ∙ c.in-None.is) ∙ has)

pub is_shaped-returns-then-levels-eq0 : goal.is_shaped-returns-then-levels-eq0
is_shaped-returns-then-levels-eq0 t c =
    sym (too_deep c.args.levels (rows_in c.args.rows.list.now) c.args.shape c.args.value.now c.in-Some.inner
    (sym c.policy_of.ensures ∙ c.in-Some.is) (omega arith))

pub is_shaped-returns-then-is_empty : goal.is_shaped-returns-then-is_empty
is_shaped-returns-then-is_empty t c =
    let has : has_shape c.args.shape c.args.value.now ≡ true = search rules in
    let some : 0 < c.args.levels = omega arith in
    let block : List ℕ = nest_block c.args.shape c.args.value.now in
    let size : length c.nest_block-block.result.now ≡ 0 = search rules in
    let none : block ≡ [] = sym c.nest_block-block.ensures ∙ nil_from_length c.nest_block-block.result.now size in
    sym (nest_step c.args.levels (rows_in c.args.rows.list.now) c.args.shape c.args.value.now c.in-Some.inner
    has (sym c.policy_of.ensures ∙ c.in-Some.is) some
    ∙ end_shaped (c.args.levels - 1) (within (rows_in c.args.rows.list.now) block) c.in-Some.inner block block refl none)

pub is_shaped-returns-else-is_empty : goal.is_shaped-returns-else-is_empty
is_shaped-returns-else-is_empty t c =
    let has : has_shape c.args.shape c.args.value.now ≡ true = search rules in
    let some : 0 < c.args.levels = omega arith in
    c.is_block_shaped.ensures
    ∙ ap (is_block_shaped (c.args.levels - 1) (rows_in c.args.rows.list.now) c.in-Some.inner) c.nest_block-block.ensures
    ∙ sym (nest_step c.args.levels (rows_in c.args.rows.list.now) c.args.shape c.args.value.now c.in-Some.inner
    has (sym c.policy_of.ensures ∙ c.in-Some.is) some)

pub is_block_shaped-loop-item-init : goal.is_block_shaped-loop-item-init
is_block_shaped-loop-item-init t c =
    let same : unread c.into_iter-item-iterator.result ≡ c.args.block.now = search rules in (
      ap (are_shaped c.args.levels (within (rows_in c.args.rows.list.now) c.args.block.now) c.args.policy) (sym same),
      λ shape none. absurd (cc),
      none_chosen (within (rows_in c.args.rows.list.now) c.args.block.now) c.args.policy,
    )

pub is_block_shaped-returns-then-not-is_shaped : goal.is_block_shaped-returns-then-not-is_shaped
is_block_shaped-returns-then-not-is_shaped t c =
    let step = rw c.in-Ok.is at c.in-Some.ensures.steps in
    let bytes : List ℕ = unread c.loop-item.item-iterator in
    let kind : c.raw_kind.result ≡ (attribute_of bytes).kind = c.raw_kind.ensures.number ∙ ap (λ (b : List ℕ). (attribute_of b).kind) step.0 in
    let value : c.value.result.now ≡ (attribute_of bytes).value = c.value.ensures.bytes ∙ ap (λ (b : List ℕ). (attribute_of b).value) step.0 in
    let is : c.is_shaped.result ≡ false = search rules in
    sym (next_shaped c.args.levels (within (rows_in c.args.rows.list.now) c.args.block.now) c.args.policy c.args.block.now bytes (unread c.next.new.self)
    c.raw_kind.result c.value.result.now c.cached_own_shape-shape.result c.is_shaped.result false
    c.loop-item.invariant.0 step.2 kind value c.cached_own_shape-shape.ensures.shape c.is_shaped.ensures is)

pub is_block_shaped-loop-item-preserved : goal.is_block_shaped-loop-item-preserved
is_block_shaped-loop-item-preserved t c =
    let step = rw c.in-Ok.is at c.in-Some.ensures.steps in
    let bytes : List ℕ = unread c.loop-item.item-iterator in
    let kind : c.raw_kind.result ≡ (attribute_of bytes).kind = c.raw_kind.ensures.number ∙ ap (λ (b : List ℕ). (attribute_of b).kind) step.0 in
    let value : c.value.result.now ≡ (attribute_of bytes).value = c.value.ensures.bytes ∙ ap (λ (b : List ℕ). (attribute_of b).value) step.0 in
    let is : c.is_shaped.result ≡ true = search rules in (
      next_shaped c.args.levels (within (rows_in c.args.rows.list.now) c.args.block.now) c.args.policy c.args.block.now bytes (unread c.next.new.self)
          c.raw_kind.result c.value.result.now c.cached_own_shape-shape.result c.is_shaped.result true
          c.loop-item.invariant.0 step.2 kind value c.cached_own_shape-shape.ensures.shape c.is_shaped.ensures is,
      c.cached_own_shape-shape.ensures.other,
      c.cached_own_shape-shape.ensures.choices,
    )

pub is_block_shaped-returns-in-Err : goal.is_block_shaped-returns-in-Err
is_block_shaped-returns-in-Err t c =
    let step = rw c.in-Err.is at c.in-Some.ensures.steps in
    sym (fault_shaped c.args.levels (within (rows_in c.args.rows.list.now) c.args.block.now) c.args.policy c.args.block.now
    (unread c.loop-item.item-iterator) _ c.loop-item.invariant.0 step.0 step.1)

pub is_block_shaped-returns : goal.is_block_shaped-returns
is_block_shaped-returns t c =
    sym (end_shaped c.args.levels (within (rows_in c.args.rows.list.now) c.args.block.now) c.args.policy c.args.block.now
    (unread c.loop-item.item-iterator) c.loop-item.invariant.0 c.in-None.ensures.steps.0)
