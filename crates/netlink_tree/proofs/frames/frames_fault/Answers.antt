use Rattle.std.proofs.Common.{[], ◌∷◌, ◌++◌, rules}
use Rattle.netlink_packet_core.specs.FrameProgress.{passes_frames_none, passes_frames_push, passes_frames_end, passes_frames_fault}
use Rattle.netlink_packet_core.specs.FrameWalkLaws.{frames_once}
use Rattle.netlink_tree.specs.FrameSteps.{unread_frames}
use Rattle.netlink_tree.proofs.frames.frames_fault.Goals as goal

pub loop-item-init : goal.loop-item-init
loop-item-init c = ([], passes_frames_none c.args.datagram.now (unread_frames c.into_iter-item-iterator.result) (search rules))

pub loop-item-preserved : goal.loop-item-preserved
loop-item-preserved c =
    let step = rw c.in-Ok.is at c.in-Some.ensures.steps in
    let done = c.loop-item.invariant.0 in
    (done ++ (_ ∷ []), passes_frames_push _ done _ _ _ c.loop-item.invariant.1 step.1)

pub returns-in-Err : goal.returns-in-Err
returns-in-Err c =
    let step = rw c.in-Err.is at c.in-Some.ensures.steps in
    let walk = passes_frames_fault _ _ _ _ c.loop-item.invariant.1 step.0 step.1 in
    record {
      fault = (c.loop-item.invariant.0, walk);
      each = λ all fault other. (frames_once _ _ _ _ _ walk other).1;
    }

pub returns : goal.returns
returns c =
    let walk = passes_frames_end _ _ _ c.loop-item.invariant.1 c.in-None.ensures.steps.0 in
    record {
      fault = (c.loop-item.invariant.0, walk);
      each = λ all fault other. (frames_once _ _ _ _ _ walk other).1;
    }
