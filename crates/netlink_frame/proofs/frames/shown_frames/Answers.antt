use Rattle.std.proofs.Common.{[], ◌∷◌, ◌++◌, rules, Some}
use Rattle.netlink_packet_core.specs.FrameProgress.{passes_frames_none, passes_frames_push, passes_frames_end, passes_frames_fault}
use Rattle.netlink_tree.specs.FrameSteps.{unread_frames}
use Rattle.netlink_frame.proofs.Datagrams.{frame_lines_push}
use Rattle.netlink_frame.proofs.frames.shown_frames.Goals as goal

pub loop-item-init : goal.loop-item-init
loop-item-init c =
    ([], passes_frames_none c.args.datagram.now (unread_frames c.into_iter-item-iterator.result) (search rules), search rules)

pub loop-item-preserved : goal.loop-item-preserved
loop-item-preserved c =
    let step = rw c.in-Ok.is at c.in-Some.ensures.steps in
    let done = c.loop-item.invariant.0 in (
      done ++ (c.in-Ok.frame.now ∷ []),
      passes_frames_push _ done _ _ _ c.loop-item.invariant.1 step.1,
      (let push = frame_lines_push done c.in-Ok.frame.now in
          let so_far = c.loop-item.invariant.2 in
          cc (push, so_far, c.in_ok-line_text-in-Ok.ensures, c.as_str.ensures.value, c.in_ok-push_str-in-Ok.ensures.bytes)),
    )

pub returns-in-Err : goal.returns-in-Err
returns-in-Err c =
    let step = rw c.in-Err.is at c.in-Some.ensures.steps in
    (c.loop-item.invariant.0, Some _, passes_frames_fault _ _ _ _ c.loop-item.invariant.1 step.0 step.1, c.loop-item.invariant.2)

pub returns : goal.returns
returns c = (c.loop-item.invariant.0, _, passes_frames_end _ _ _ c.loop-item.invariant.1 c.in-None.ensures.steps.0, c.loop-item.invariant.2)
