use Rattle.std.proofs.Common.{[], ◌∷◌, ◌++◌}
use Rattle.netlink_attributes.specs.Steps.{unread}
use Rattle.netlink_attributes.specs.Views.{attribute_of}
use Rattle.netlink_attributes.specs.Progress.{passes_push, passes_ends, passes_faults}
use Rattle.netlink_attributes.specs.WalkLaws.{walk_once}
use Rattle.netlink_attributes.proofs.fault.nlas_fault.Goals as goal

pub loop-item-preserved : goal.loop-item-preserved
loop-item-preserved c =
    let step = rw c.in-Ok.is at c.in-Some.ensures.steps in
    let done = c.loop-item.invariant.0 in
    (done ++ (attribute_of (unread c.loop-item.item-iterator) ∷ []), passes_push _ done _ _ _ c.loop-item.invariant.1 step.2)

pub returns-in-Err : goal.returns-in-Err
returns-in-Err c =
    let step = rw c.in-Err.is at c.in-Some.ensures.steps in
    let walk = passes_faults _ _ _ _ c.loop-item.invariant.1 step.0 step.1 in
    record {
      fault = (c.loop-item.invariant.0, walk);
      each = λ all fault other. (walk_once _ _ _ _ _ walk other).1;
    }

pub returns : goal.returns
returns c =
    let walk = passes_ends _ _ _ c.loop-item.invariant.1 c.in-None.ensures.steps.0 in
    record {
      fault = (c.loop-item.invariant.0, walk);
      each = λ all fault other. (walk_once _ _ _ _ _ walk other).1;
    }
