use Rattle.std.proofs.Common.{ℕ, List, ◌≡◌, ◌-◌, length, ap, refl, ◌∙◌, arith}
use Rattle.std.proofs.lemmas.List.{length-replicate}
use Rattle.netlink_packet_core.specs.StartLaws.{starts-length}
use Rattle.netlink_packet_core.specs.Steps.{unread}
use Rattle.netlink_packet_core.specs.Views.{attribute_of}
use Rattle.netlink_c.specs.Items.{absent, item_at, items_of}
use Rattle.netlink_c.proofs.ItemLemmas.{Fills, ends_none, ends_some, fills_all, fills_next, fills_start, left_end, left_fault, left_next, left_start, length-entered}
use Rattle.netlink_c.proofs.kinds.nlp_attrs_table.Goals as goal

pub loop-step-init : goal.loop-step-init
loop-step-init c =
    let same : unread c.into_iter-step-iterator.result ≡ c.args.block.now =
    ap unread c.into_iter-step-iterator.ensures.into_iter_gives ∙ c.new-step-items.ensures.keeps in
    let size = ap length same in
    record {
      shorter = omega (arith, size);
      size = ap length c.clear.ensures ∙ length-replicate (length c.args.table.now) absent;
      unfaulted = refl;
      left = left_start _ _ (Fills (length c.args.table.now) c.clear.new.table) same
          (λ items. fills_start (length c.args.table.now) c.clear.new.table items c.clear.ensures);
    }

pub loop-step-preserved : goal.loop-step-preserved
loop-step-preserved c =
    let step = rw c.in-Ok.is at c.in-Some.ensures.steps in
    let size = starts-length _ _ _ step.2 in
    record {
      shorter = omega (arith, size, c.loop-step.invariant.shorter);
      size = length-entered _ _ _ c.enter.ensures ∙ c.loop-step.invariant.size;
      unfaulted = c.loop-step.invariant.unfaulted;
      left = left_next _ _ _ _ (Fills (length c.args.table.now) c.loop-step.table) _ c.loop-step.invariant.shorter step.2
          (λ items later. fills_next _ _ _ c.item_of-here.result _ items later c.loop-step.invariant.size
          (c.item_of-here.ensures
          ∙ ap (λ (b : List ℕ). item_at (length c.args.block.now - length b) (attribute_of b)) step.0)
          c.enter.ensures)
          c.loop-step.invariant.left;
    }

pub returns-clause-table : goal.returns-clause-table
returns-clause-table c = λ all end walk.
    fills_all (length c.args.table.now) c.loop-step.table (items_of all) c.loop-step.invariant.size (left_end _ _ (Fills (length c.args.table.now) c.loop-step.table) c.in-None.ensures.steps.0 c.loop-step.invariant.left all end walk).1

pub returns-clause-outcome : goal.returns-clause-outcome
returns-clause-outcome c = λ all end walk.
    ends_none end _ _ _ _ (left_end _ _ (Fills (length c.args.table.now) c.loop-step.table) c.in-None.ensures.steps.0 c.loop-step.invariant.left all end walk).0 refl c.loop-step.invariant.unfaulted

pub returns-in-Err-clause-table : goal.returns-in-Err-clause-table
returns-in-Err-clause-table c = λ all end walk.
    let step = rw c.in-Err.is at c.in-Some.ensures.steps in
    fills_all (length c.args.table.now) c.loop-step.table (items_of all) c.loop-step.invariant.size (left_fault _ _ _ (Fills (length c.args.table.now) c.loop-step.table) step.0 step.1 c.loop-step.invariant.left all end walk).1

pub returns-in-Err-clause-outcome : goal.returns-in-Err-clause-outcome
returns-in-Err-clause-outcome c = λ all end walk.
    let step = rw c.in-Err.is at c.in-Some.ensures.steps in
    ends_some end _ _ _ _ _ (left_fault _ _ _ (Fills (length c.args.table.now) c.loop-step.table) step.0 step.1 c.loop-step.invariant.left all end walk).0
    c.refused.ensures.number c.refused.ensures.numbers
