use Rattle.std.proofs.Common.{ℕ, List, length, ap, sym, ◌∙◌, arith, Bor}
use Rattle.std.specs.Option.{option_map}
use Rattle.netlink_attributes.specs.Places.{value_part}
use Rattle.netlink_attributes.specs.Views.{length_field}
use Rattle.netlink_attributes.proofs.PlaceLemmas.{none_left, place_next, place_here, same_place}
use Rattle.netlink_attributes.specs.StartLaws.{nothing_starts, starts-fault, starts-length}
use Rattle.netlink_attributes.proofs.place.nla_place.Goals as goal

pub returns-then-left-eq0-clause-place : goal.returns-then-left-eq0-clause-place
returns-then-left-eq0-clause-place c = λ all fault walk.
    let step = rw c.in-Ok.is at c.in-Some.ensures.steps in
    let known = c.loop-item.invariant.same all fault walk in
    same_place _ _ _ _ _ (ap (λ (x : Bor (List ℕ)). x.now) c.into_inner.ensures.keeps ∙ step.0)
    (c.length-size.ensures.number ∙ ap length_field step.0)
    ∙ sym (ap (option_map value_part) (known.2 ∙ place_here _ _ _ _ known.0 fault _ step.2 known.1 c.if-left-eq0.true))

pub loop-item-preserved : goal.loop-item-preserved
loop-item-preserved c =
    let step = rw c.in-Ok.is at c.in-Some.ensures.steps in
    let size = starts-length _ _ _ step.2 in
    record {
      shorter = omega arith;
      same = λ all fault walk.
          let known = c.loop-item.invariant.same all fault walk in
          place_next (length c.args.block.now) _ _ _ known.0 fault _ _ c.loop-item.invariant.shorter step.2 known.1 (omega arith) known.2;
    }

pub returns-in-Err-clause-place : goal.returns-in-Err-clause-place
returns-in-Err-clause-place c = λ all fault walk.
    let step = rw c.in-Err.is at c.in-Some.ensures.steps in
    let known = c.loop-item.invariant.same all fault walk in
    sym (ap (option_map value_part) (known.2 ∙ none_left _ known.0 fault _ _ known.1 (λ a r s. starts-fault _ a r _ s step.1)))

pub returns-clause-place : goal.returns-clause-place
returns-clause-place c = λ all fault walk.
    let known = c.loop-item.invariant.same all fault walk in
    sym (ap (option_map value_part)
    (known.2 ∙ none_left _ known.0 fault _ _ known.1 (λ a r s. nothing_starts _ a r c.in-None.ensures.steps.0 s)))
