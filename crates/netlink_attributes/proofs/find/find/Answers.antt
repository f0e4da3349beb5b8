use Rattle.std.proofs.Common.{ℕ, List, [], ◌∷◌, ◌++◌, ◌≡◌, ◌≢◌, ◌+◌, ap, sym, ◌∙◌, arith, length-append}
use Rattle.netlink_attributes.specs.Attribute.{Attribute}
use Rattle.netlink_attributes.specs.Kinds.{kind_by}
use Rattle.netlink_attributes.specs.Progress.{passes_push, passes_ends, passes_faults}
use Rattle.netlink_attributes.specs.StartLaws.{starts-length}
use Rattle.netlink_attributes.specs.Steps.{unread}
use Rattle.netlink_attributes.specs.Views.{attribute_of, raw_kind}
use Rattle.netlink_attributes.proofs.FindLemmas.{none_push, found_first, none_found}
use Rattle.netlink_attributes.proofs.find.find.Goals as goal

pub returns-then-found-kind-clause-first : goal.returns-then-found-kind-clause-first
returns-then-found-kind-clause-first c = λ all fault walk.
    let step = rw c.in-Ok.is at c.in-Some.ensures.steps in
    let passed = c.loop-item.invariant.passed in
    let part : ℕ → ℕ = kind_by c.args.whole in
    let same : part (raw_kind (unread c.loop-item.item-iterator)) ≡ c.args.kind =
    ap (λ (b : List ℕ). part (raw_kind b)) (sym step.0) ∙ sym c.kind_of-found.ensures ∙ c.if-found-kind.true in
    found_first part _ passed.0 _ _ _ c.args.kind _ passed.1 step.2 passed.2 same passed.3 all fault walk

pub loop-item-preserved : goal.loop-item-preserved
loop-item-preserved c =
    let step = rw c.in-Ok.is at c.in-Some.ensures.steps in
    let passed = c.loop-item.invariant.passed in
    let part : ℕ → ℕ = kind_by c.args.whole in
    let a : Attribute = attribute_of (unread c.loop-item.item-iterator) in
    let size = starts-length _ _ _ step.2 in
    let other : part a.kind ≢ c.args.kind =
    λ same. c.if-found-kind.false (c.kind_of-found.ensures ∙ ap (λ (b : List ℕ). part (raw_kind b)) step.0 ∙ same) in
    record {
      count = omega (arith, size, c.loop-item.invariant.count);
      passed = (
        passed.0 ++ (a ∷ []),
        passes_push _ passed.0 _ _ _ passed.1 step.2,
        none_push part passed.0 a c.args.kind passed.2 other,
        length-append passed.0 (a ∷ []) ∙ ap (λ (n : ℕ). n + 1) passed.3,
      );
    }

pub returns-in-Err-clause-none : goal.returns-in-Err-clause-none
returns-in-Err-clause-none c = λ all fault walk.
    let step = rw c.in-Err.is at c.in-Some.ensures.steps in
    let passed = c.loop-item.invariant.passed in
    none_found (kind_by c.args.whole) _ passed.0 _ c.args.kind (passes_faults _ _ _ _ passed.1 step.0 step.1) passed.2 all fault walk

pub returns-clause-none : goal.returns-clause-none
returns-clause-none c = λ all fault walk.
    let passed = c.loop-item.invariant.passed in
    none_found (kind_by c.args.whole) _ passed.0 _ c.args.kind (passes_ends _ _ _ passed.1 c.in-None.ensures.steps.0) passed.2 all fault
    walk
