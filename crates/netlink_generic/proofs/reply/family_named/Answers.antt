use Rattle.std.proofs.Common.{[], ◌∷◌, ◌++◌, refl, rules}
use Rattle.netlink_packet_core.specs.FrameProgress.{passes_frames_end, passes_frames_fault, passes_frames_none, passes_frames_push}
use Rattle.netlink_tree.specs.FrameSteps.{unread_frames}
use Rattle.netlink_generic.proofs.Search.{named_here, none_named, none_push}
use Rattle.netlink_generic.proofs.reply.family_named.Goals as goal

pub loop-item-init : goal.loop-item-init
loop-item-init c =
    ([], passes_frames_none c.args.datagram.now (unread_frames c.into_iter-item-iterator.result) (search rules), refl)

pub returns-in-Some-named_family-clause-some : goal.returns-in-Some-named_family-clause-some
returns-in-Some-named_family-clause-some c = λ all fault walk.
    let step = rw c.in-Ok.is at c.in-Some.ensures.steps in
    let passed = c.loop-item.invariant in
    named_here c.args.name.now c.args.datagram.now passed.0 _ c.in-Ok.frame.now _ c.in-Some-named_family.found.payload.now
    passed.1 step.1 passed.2 c.in-Some-named_family.ensures.some all fault walk

pub loop-item-preserved : goal.loop-item-preserved
loop-item-preserved c =
    let step = rw c.in-Ok.is at c.in-Some.ensures.steps in
    let passed = c.loop-item.invariant in (
      passed.0 ++ (c.in-Ok.frame.now ∷ []),
      passes_frames_push _ passed.0 _ _ _ passed.1 step.1,
      none_push c.args.name.now passed.0 c.in-Ok.frame.now passed.2 c.in_default.ensures.none,
    )

pub returns-in-Err-clause-none : goal.returns-in-Err-clause-none
returns-in-Err-clause-none c = λ all fault walk.
    let step = rw c.in-Err.is at c.in-Some.ensures.steps in
    let passed = c.loop-item.invariant in
    none_named c.args.name.now _ passed.0 _ (passes_frames_fault _ _ _ _ passed.1 step.0 step.1) passed.2 all fault walk

pub returns-clause-none : goal.returns-clause-none
returns-clause-none c = λ all fault walk.
    let passed = c.loop-item.invariant in
    none_named c.args.name.now _ passed.0 _ (passes_frames_end _ _ _ passed.1 c.in-None.ensures.steps.0) passed.2 all fault walk
