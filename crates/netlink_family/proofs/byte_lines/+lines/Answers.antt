use Rattle.std.proofs.Common.{arith, rules, sym, ap, ◌∙◌, ◌≡◌, ◌+◌, ◌-◌, ◌<◌, ◌++◌, ℕ, List, string_bytes, Bor, subst, length, length-drop, refl}
use Rattle.netlink_packet_core.specs.Attribute.{padded_size}
use Rattle.netlink_packet_core.specs.NumberLaws.{IsBytes-drop}
use Rattle.netlink_packet_core.specs.Numbers.{IsBytes}
use Rattle.netlink_packet_core.specs.Views.{attribute_of, length_field, raw_kind, shown}
use Rattle.netlink_shapes.specs.Choices.{none_chosen}
use Rattle.netlink_shapes.specs.Shapes.{Row, Scope, nest_block, nest_of, rows_in, shape_among, within}
use Rattle.netlink_family.specs.ByteLines.{attribute_lines, block_lines_at, nest_start_line, rest_line}
use Rattle.netlink_family.specs.ByteLinesLaws.{lines_deep, lines_flat, lines_nest, walk_fault}
use Rattle.netlink_family.proofs.ByteLines.{flat_is, nest_is, ok_then, rest_is, same_size, step_lines}
use Rattle.netlink_family.proofs.Lines.{joins}
use Rattle.netlink_family.proofs.byte_lines.+lines.Goals as goal

pub push_attribute-returns-then-levels-eq0 : goal.push_attribute-returns-then-levels-eq0
push_attribute-returns-then-levels-eq0 t c =
    let bytes : List ℕ = c.args.bytes.now in
    let scope : Scope = within (rows_in c.args.rows.list.now) c.args._around.now in
    let view : shown c.new-nla.result ≡ bytes = ap (λ (b : Bor (List ℕ)). b.now) c.new-nla.ensures.keeps in
    let size : padded_size (attribute_of bytes) ≡ c.nla_align-size.result =
    same_size bytes c.nla_align-size.result c.requires.whole
    (rw (c.length.ensures.number ∙ ap length_field view) at c.nla_align-size.ensures.least) c.nla_align-size.ensures.multiple in
    let kind : c.raw_kind-kind.result ≡ raw_kind bytes = c.raw_kind-kind.ensures.number ∙ ap raw_kind view in
    let value : c.value-value.result.now ≡ (attribute_of bytes).value =
    c.value-value.ensures.bytes ∙ ap (λ (b : List ℕ). (attribute_of b).value) view in
    ok_then c.push_flat-then-levels-eq0.result c.push_flat-then-levels-eq0.ensures (λ added. added
    ∙ ap (λ (x : List ℕ). string_bytes c.args.text.now ++ x)
    (flat_is c.args.fault scope c.args.policy c.args.depth (c.args.end - length bytes) _ bytes _ _ c.args.shape _ (search rules) size kind
    (c.requires.shape) value
    ∙ sym (lines_deep c.args.fault c.args.levels scope c.args.policy c.args.depth c.args.end bytes (omega arith))))

pub push_attribute-returns-in-None : goal.push_attribute-returns-in-None
push_attribute-returns-in-None t c =
    let bytes : List ℕ = c.args.bytes.now in
    let scope : Scope = within (rows_in c.args.rows.list.now) c.args._around.now in
    let view : shown c.new-nla.result ≡ bytes = ap (λ (b : Bor (List ℕ)). b.now) c.new-nla.ensures.keeps in
    let size : padded_size (attribute_of bytes) ≡ c.nla_align-size.result =
    same_size bytes c.nla_align-size.result c.requires.whole
    (rw (c.length.ensures.number ∙ ap length_field view) at c.nla_align-size.ensures.least) c.nla_align-size.ensures.multiple in
    let kind : c.raw_kind-kind.result ≡ raw_kind bytes = c.raw_kind-kind.ensures.number ∙ ap raw_kind view in
    let value : c.value-value.result.now ≡ (attribute_of bytes).value =
    c.value-value.ensures.bytes ∙ ap (λ (b : List ℕ). (attribute_of b).value) view in
    ok_then c.push_flat.result c.push_flat.ensures (λ added. added
    ∙ ap (λ (x : List ℕ). string_bytes c.args.text.now ++ x)
    (flat_is c.args.fault scope c.args.policy c.args.depth (c.args.end - length bytes) _ bytes _ _ c.args.shape _ (search rules) size kind
    (c.requires.shape) value
    ∙ sym (lines_flat c.args.fault c.args.levels scope c.args.policy c.args.depth c.args.end bytes
    (ap nest_of (sym c.requires.shape) ∙ sym c.policy_of.ensures ∙ c.in-None.is))))

pub push_attribute-returns-in_ok-push_nest_line-in-Some :
    goal.push_attribute-returns-in_ok-push_nest_line-in-Some
push_attribute-returns-in_ok-push_nest_line-in-Some t c =
    let text : List ℕ = string_bytes c.args.text.now in
    let bytes : List ℕ = c.args.bytes.now in
    let rows : List Row = rows_in c.args.rows.list.now in
    let scope : Scope = within rows c.args._around.now in
    let at : ℕ = c.args.end - length bytes in
    let view : shown c.new-nla.result ≡ bytes = ap (λ (b : Bor (List ℕ)). b.now) c.new-nla.ensures.keeps in
    let kind : c.raw_kind-kind.result ≡ raw_kind bytes = c.raw_kind-kind.ensures.number ∙ ap raw_kind view in
    let value : c.value-value.result.now ≡ (attribute_of bytes).value =
    c.value-value.ensures.bytes ∙ ap (λ (b : List ℕ). (attribute_of b).value) view in
    let some : 0 < c.args.levels = omega arith in
    let placed : c.saturating_sub-at.result ≡ at = search rules in
    ok_then c.push_block.result c.push_block.ensures (λ added.
    joins text (string_bytes c.push_nest_line.new.text) (string_bytes c.push_block.new.text)
    (nest_start_line c.args.fault rows c.args.policy c.args.depth at (shape_among scope c.args.policy (raw_kind bytes)) bytes)
    (block_lines_at c.args.fault (c.args.levels - 1) rows c.in-Some.inner (c.args.depth + 1) (at + 4 + length (attribute_of bytes).value)
    (nest_block (shape_among scope c.args.policy (raw_kind bytes)) (attribute_of bytes).value))
    (joins text (string_bytes c.push_named.new.text) (string_bytes c.push_nest_line.new.text) _ _
    c.in_ok-push_named-in-Some.ensures c.in_ok-push_nest_line-in-Some.ensures
    ∙ ap (λ (x : List ℕ). text ++ x)
    (nest_is c.args.fault scope c.args.policy c.args.depth at c.saturating_sub-at.result bytes c.nest_start-start.result
    c.raw_kind-kind.result c.args.shape c.value-value.result.now placed c.nest_start-start.ensures kind c.requires.shape value))
    (added ∙ ap (λ (x : List ℕ). string_bytes c.push_nest_line.new.text ++ x)
    (rest_is c.args.fault (c.args.levels - 1) rows c.in-Some.inner (c.args.depth + 1) at c.saturating_sub-at.result c.value-value.result.now
    (attribute_of bytes).value c.nest_block-block.result.now c.args.shape (shape_among scope c.args.policy (raw_kind bytes))
    placed value c.requires.shape c.nest_block-block.ensures))
    ∙ ap (λ (x : List ℕ). text ++ x)
    (sym (lines_nest c.args.fault c.args.levels scope c.args.policy c.args.depth c.args.end bytes c.in-Some.inner
    (ap nest_of (sym c.requires.shape) ∙ sym c.policy_of.ensures ∙ c.in-Some.is) some)))

pub push_block-loop-nla-init : goal.push_block-loop-nla-init
push_block-loop-nla-init t c = (refl, none_chosen (within (rows_in c.args.rows.list.now) c.args.block.now) c.args.policy, omega arith, λ i. omega (arith, c.type_inv.block i))

pub push_block-loop-nla-preserved : goal.push_block-loop-nla-preserved
push_block-loop-nla-preserved t c =
    let bytes : List ℕ = c.loop-nla.rest.now in
    let scope : Scope = within (rows_in c.args.rows.list.now) c.args.block.now in
    let view : shown c.in-Ok.nla ≡ bytes = ap (λ (b : Bor (List ℕ)). b.now) c.in-Ok.ensures.keeps in
    let end : ℕ = c.nla_align-size.result in
    let shorter = length-drop end bytes in (
      step_lines (attribute_lines c.args.fault c.args.levels scope c.args.policy c.args.depth c.args.end)
          (λ (rest : List ℕ). rest_line c.args.fault c.args.depth (c.args.end - length rest) rest) _
          (string_bytes c.loop-nla.text) (string_bytes c.push_attribute.new.text) bytes c.split.result.1.now end
          c.loop-nla.invariant.3 c.in-Ok.ensures.whole
          (rw (c.length.ensures.number ∙ ap length_field view) at c.nla_align-size.ensures.least) c.nla_align-size.ensures.multiple
          c.loop-nla.invariant.0 c.in_ok-push_attribute-in-Ok.ensures c.split.ensures.rest,
      c.kept_shape_among-shape.ensures.choices,
      rw c.split.ensures.rest (omega (arith, shorter, c.loop-nla.invariant.2)),
      subst IsBytes (sym c.split.ensures.rest) (IsBytes-drop end bytes c.loop-nla.invariant.3),
    )

pub push_block-returns-in-Err : goal.push_block-returns-in-Err
push_block-returns-in-Err t c =
    let bytes : List ℕ = c.loop-nla.rest.now in
    let scope : Scope = within (rows_in c.args.rows.list.now) c.args.block.now in
    let placed : c.saturating_sub-at.result ≡ c.args.end - length bytes = search rules in
    ok_then c.push_rest_line.result c.push_rest_line.ensures.line (λ added. added
    ∙ ap (λ (n : ℕ). string_bytes c.loop-nla.text ++ rest_line c.args.fault c.args.depth n bytes) placed
    ∙ ap (λ (x : List ℕ). string_bytes c.loop-nla.text ++ x)
    (sym (walk_fault (attribute_lines c.args.fault c.args.levels scope c.args.policy c.args.depth c.args.end)
    (λ (rest : List ℕ). rest_line c.args.fault c.args.depth (c.args.end - length rest) rest) bytes _ c.in-Err.ensures.refuses))
    ∙ sym c.loop-nla.invariant.0)
