use Rattle.std.proofs.Common.{arith, rules, sym, ap, ◌∙◌, ◌≡◌, ◌+◌, ◌-◌, ◌<◌, ◌++◌, ℕ, List, string_bytes}
use Rattle.netlink_packet_core.specs.Steps.{unread}
use Rattle.netlink_packet_core.specs.Views.{attribute_of}
use Rattle.netlink_shapes.specs.Shapes.{nest_start, rows_in, within}
use Rattle.netlink_blocks.specs.Show.{value_line, block_lines, label_text, nest_line, value_lines}
use Rattle.netlink_blocks.specs.ShowLaws.{lines_deep, lines_flat, lines_nest}
use Rattle.netlink_shapes.specs.Choices.{none_chosen}
use Rattle.netlink_shapes.specs.ListingLaws.{before_malformed, before_nothing}
use Rattle.netlink_family.proofs.Lines.{joins, joins_three, lines_end, lines_later}
use Rattle.netlink_family.proofs.show.+lines.Goals as goal

pub push_attribute-returns-then-levels-eq0 : goal.push_attribute-returns-then-levels-eq0
push_attribute-returns-then-levels-eq0 t c =
    joins (string_bytes c.args.text.now) (string_bytes c.push_label.new.text) _ (label_text (rows_in c.args.rows.list.now) c.args.policy c.args.depth c.args.kind)
    (value_line c.args.shape c.args.value.now) c.in_ok-push_label.ensures c.in_ok-push_value_line-in-Some.ensures
    ∙ ap (λ (x : List ℕ). string_bytes c.args.text.now ++ x)
    (sym (lines_deep c.args.levels (within (rows_in c.args.rows.list.now) c.args._around.now) c.args.policy c.args.depth c.args.kind c.args.value.now c.args.shape c.requires.shape (omega arith)))

pub push_attribute-returns-in_ok-push_value_line-in-None : goal.push_attribute-returns-in_ok-push_value_line-in-None
push_attribute-returns-in_ok-push_value_line-in-None t c =
    joins (string_bytes c.args.text.now) (string_bytes c.push_label.new.text) _ (label_text (rows_in c.args.rows.list.now) c.args.policy c.args.depth c.args.kind)
    (value_line c.args.shape c.args.value.now) c.in_ok-push_label.ensures c.in_ok-push_value_line-in-None.ensures
    ∙ ap (λ (x : List ℕ). string_bytes c.args.text.now ++ x)
    (sym (lines_flat c.args.levels (within (rows_in c.args.rows.list.now) c.args._around.now) c.args.policy c.args.depth c.args.kind c.args.value.now c.args.shape c.requires.shape
    (sym c.policy_of.ensures ∙ c.in-None.is)))

pub push_attribute-returns-in_ok-push_block-in-Some : goal.push_attribute-returns-in_ok-push_block-in-Some
push_attribute-returns-in_ok-push_block-in-Some t c =
    let some : 0 < c.args.levels = omega arith in
    joins_three (string_bytes c.args.text.now) (string_bytes c.push_label.new.text) (string_bytes c.push_nest_line.new.text) _
    (label_text (rows_in c.args.rows.list.now) c.args.policy c.args.depth c.args.kind) (nest_line c.nest_start.result c.args.value.now)
    (block_lines (c.args.levels - 1) (rows_in c.args.rows.list.now) c.in-Some.inner (c.args.depth + 1) c.nest_block-block.result.now)
    c.in_ok-push_label.ensures c.in_ok-push_nest_line-in-Some.ensures c.in_ok-push_block-in-Some.ensures
    ∙ ap (λ (n : ℕ). string_bytes c.args.text.now ++ (label_text (rows_in c.args.rows.list.now) c.args.policy c.args.depth c.args.kind
    ++ (nest_line n c.args.value.now ++ block_lines (c.args.levels - 1) (rows_in c.args.rows.list.now) c.in-Some.inner (c.args.depth + 1)
    c.nest_block-block.result.now))) c.nest_start.ensures
    ∙ ap (λ (b : List ℕ). string_bytes c.args.text.now ++ (label_text (rows_in c.args.rows.list.now) c.args.policy c.args.depth c.args.kind
    ++ (nest_line (nest_start c.args.shape) c.args.value.now
    ++ block_lines (c.args.levels - 1) (rows_in c.args.rows.list.now) c.in-Some.inner (c.args.depth + 1) b))) c.nest_block-block.ensures
    ∙ ap (λ (x : List ℕ). string_bytes c.args.text.now ++ x)
    (sym (lines_nest c.args.levels (within (rows_in c.args.rows.list.now) c.args._around.now) c.args.policy c.args.depth c.args.kind c.args.value.now c.args.shape c.in-Some.inner c.requires.shape
    (sym c.policy_of.ensures ∙ c.in-Some.is) some))

pub push_block-loop-item-init : goal.push_block-loop-item-init
push_block-loop-item-init t c = (search rules, none_chosen (within (rows_in c.args.rows.list.now) c.args.block.now) c.args.policy)

pub push_block-loop-item-preserved : goal.push_block-loop-item-preserved
push_block-loop-item-preserved t c =
    let step = rw c.in-Ok.is at c.in-Some.ensures.steps in
    let bytes : List ℕ = unread c.loop-item.item-iterator in
    let kind : c.raw_kind-kind.result ≡ (attribute_of bytes).kind = c.raw_kind-kind.ensures.number ∙ ap (λ (b : List ℕ). (attribute_of b).kind) step.0 in
    let value : c.value-value.result.now ≡ (attribute_of bytes).value = c.value-value.ensures.bytes ∙ ap (λ (b : List ℕ). (attribute_of b).value) step.0 in (
      lines_later (value_lines c.args.levels (within (rows_in c.args.rows.list.now) c.args.block.now) c.args.policy c.args.depth) _ (string_bytes c.loop-item.text)
          (string_bytes c.push_attribute.new.text) bytes (unread c.next.new.self) c.raw_kind-kind.result c.value-value.result.now c.loop-item.invariant.0 step.2 kind value
          c.in_ok-push_attribute-in-Ok.ensures,
      c.kept_shape_among-shape.ensures.choices,
    )

pub push_block-returns-in-Err : goal.push_block-returns-in-Err
push_block-returns-in-Err t c =
    let step = rw c.in-Err.is at c.in-Some.ensures.steps in
    lines_end (value_lines c.args.levels (within (rows_in c.args.rows.list.now) c.args.block.now) c.args.policy c.args.depth) _ (string_bytes c.loop-item.text) (unread c.loop-item.item-iterator)
    c.loop-item.invariant.0 (before_malformed (unread c.loop-item.item-iterator) _ step.1)

pub push_block-returns : goal.push_block-returns
push_block-returns t c =
    lines_end (value_lines c.args.levels (within (rows_in c.args.rows.list.now) c.args.block.now) c.args.policy c.args.depth) _ (string_bytes c.loop-item.text) (unread c.loop-item.item-iterator)
    c.loop-item.invariant.0 (before_nothing (unread c.loop-item.item-iterator) c.in-None.ensures.steps.0)
