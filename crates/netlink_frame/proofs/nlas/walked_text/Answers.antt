use Rattle.std.proofs.Common.{◌≡◌, ◌∙◌, ℕ, List, [], ◌∷◌, ◌++◌, ap, sym, rules, Some}
use Rattle.netlink_packet_core.specs.Attribute.{Attribute}
use Rattle.netlink_packet_core.specs.Progress.{passes_none, passes_push, passes_ends, passes_faults}
use Rattle.netlink_packet_core.specs.Steps.{unread}
use Rattle.netlink_packet_core.specs.Views.{attribute_of, shown}
use Rattle.netlink_frame.specs.Lines.{nla_line, nla_lines}
use Rattle.netlink_frame.proofs.Attributes.{lines_push}
use Rattle.netlink_frame.proofs.nlas.walked_text.Goals as goal

pub loop-item-init : goal.loop-item-init
loop-item-init c = ([], passes_none c.args.block.now (unread c.into_iter-item-iterator.result) (search rules), search rules)

pub loop-item-preserved : goal.loop-item-preserved
loop-item-preserved c =
    let step = rw c.in-Ok.is at c.in-Some.ensures.steps in
    let done = c.loop-item.invariant.0 in
    let a : Attribute = attribute_of (unread c.loop-item.item-iterator) in (
      done ++ (a ∷ []),
      passes_push _ done _ _ _ c.loop-item.invariant.1 step.2,
      (let shows : attribute_of (shown c.in-Ok.nla) ≡ a = ap attribute_of step.0 in
          let push = lines_push done a in
          let so_far = c.loop-item.invariant.2 in
          c.in_ok-push_line-in-Ok.ensures ∙ ap (λ (t : List ℕ). t ++ nla_line (attribute_of (shown c.in-Ok.nla))) so_far
          ∙ ap (λ (b : Attribute). nla_lines done ++ nla_line b) shows ∙ sym push),
    )

pub returns-in-Err : goal.returns-in-Err
returns-in-Err c =
    let step = rw c.in-Err.is at c.in-Some.ensures.steps in
    (c.loop-item.invariant.0, Some _, passes_faults _ _ _ _ c.loop-item.invariant.1 step.0 step.1, c.loop-item.invariant.2)

pub returns : goal.returns
returns c = (c.loop-item.invariant.0, _, passes_ends _ _ _ c.loop-item.invariant.1 c.in-None.ensures.steps.0, c.loop-item.invariant.2)
