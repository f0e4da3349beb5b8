use Rattle.std.proofs.Common.{ℕ, List, ◌≡◌, ◌-◌, length, ap, refl, sym, ◌∙◌, arith}
use Rattle.netlink_packet_core.specs.StartLaws.{starts-length}
use Rattle.netlink_packet_core.specs.Steps.{unread}
use Rattle.netlink_packet_core.specs.Views.{attribute_of}
use Rattle.netlink_c.specs.Items.{item_at}
use Rattle.netlink_c.proofs.ItemLemmas.{Seeks, ends_none, ends_some, left_end, left_fault, left_next, left_start, seeks_next}
use Rattle.netlink_c.proofs.kinds.nlp_attrs_find.Goals as goal

pub loop-step-init : goal.loop-step-init
loop-step-init c =
    let same : unread c.into_iter-step-iterator.result ≡ c.args.block.now =
    ap unread c.into_iter-step-iterator.ensures.into_iter_gives ∙ c.new-step-items.ensures.keeps in
    let size = ap length same in
    record {
      shorter = omega (arith, size);
      unfaulted = refl;
      left = left_start _ _ (Seeks c.args.kind c.args.item.now c.args.item.now 34) same (λ items. (refl, refl));
    }

pub loop-step-preserved : goal.loop-step-preserved
loop-step-preserved c =
    let step = rw c.in-Ok.is at c.in-Some.ensures.steps in
    let size = starts-length _ _ _ step.2 in
    record {
      shorter = omega (arith, size, c.loop-step.invariant.shorter);
      unfaulted = c.loop-step.invariant.unfaulted;
      left = left_next _ _ _ _ (Seeks c.args.kind c.args.item.now c.loop-step.item c.loop-step.found) _ c.loop-step.invariant.shorter step.2
          (λ items later. seeks_next c.args.kind _ _ _ c.item_of-here.result _ _ _ items later
          (c.item_of-here.ensures
          ∙ ap (λ (b : List ℕ). item_at (length c.args.block.now - length b) (attribute_of b)) step.0)
          c.keep-found.ensures.item c.keep-found.ensures.found)
          c.loop-step.invariant.left;
    }

pub returns-clause-item : goal.returns-clause-item
returns-clause-item c = λ all end walk.
    sym (left_end _ _ (Seeks c.args.kind c.args.item.now c.loop-step.item c.loop-step.found) c.in-None.ensures.steps.0 c.loop-step.invariant.left all end walk).1.0

pub returns-clause-outcome : goal.returns-clause-outcome
returns-clause-outcome c = λ all end walk.
    let known = left_end _ _ (Seeks c.args.kind c.args.item.now c.loop-step.item c.loop-step.found) c.in-None.ensures.steps.0 c.loop-step.invariant.left all end walk in
    ends_none end _ _ _ _ known.0 (sym known.1.1) c.loop-step.invariant.unfaulted

pub returns-in-Err-clause-item : goal.returns-in-Err-clause-item
returns-in-Err-clause-item c = λ all end walk.
    let step = rw c.in-Err.is at c.in-Some.ensures.steps in
    sym (left_fault _ _ _ (Seeks c.args.kind c.args.item.now c.loop-step.item c.loop-step.found) step.0 step.1 c.loop-step.invariant.left all end walk).1.0

pub returns-in-Err-clause-outcome : goal.returns-in-Err-clause-outcome
returns-in-Err-clause-outcome c = λ all end walk.
    let step = rw c.in-Err.is at c.in-Some.ensures.steps in
    ends_some end _ _ _ _ _ (left_fault _ _ _ (Seeks c.args.kind c.args.item.now c.loop-step.item c.loop-step.found) step.0 step.1 c.loop-step.invariant.left all end walk).0
    c.refused.ensures.number c.refused.ensures.numbers
