use Rattle.std.proofs.Common.{◌≢◌, ℕ, List, [], drop, length, subst, sym, ◌∙◌, ap, arith}
use Rattle.std.proofs.lemmas.List.{drop_all, length-drop, take_rest}
use Rattle.std.specs.Prelude.{false}
use Rattle.netlink_packet_core.specs.FrameWalk.{StartsFrame}
use Rattle.netlink_packet_core.specs.Refusal.{IsFrameFault}
use Rattle.netlink_tree.specs.FrameSteps.{unread_frames}
use Rattle.netlink_replies.proofs.ReadLemmas.{fault_steps, frame_steps, if_reply, rest_after}
use Rattle.netlink_replies.specs.Meaning.{shown_item}
use Rattle.netlink_replies.proofs.replies.Replies.step.Goals as goal

pub returns-in-Some-Ok-clause-frame : goal.returns-in-Some-Ok-clause-frame
returns-in-Some-Ok-clause-frame c =
    let step = rw c.in-Some-Ok.field-0-is at c.in-Some-Ok.ensures.steps in
    let bytes : List ℕ = drop c.args.cursor.now c.args.datagram.now in
    let next : List ℕ = unread_frames c.next.new.self in
    let starts : StartsFrame bytes c.in-Some-Ok.frame.now next =
    subst (λ (b : List ℕ). StartsFrame b c.in-Some-Ok.frame.now next) (c.new-walk.ensures.keeps ∙ take_rest c.args.datagram.now c.args.cursor.now) step.1 in
    frame_steps c.args.self.now bytes c.in-Some-Ok.frame.now next (shown_item c.take_frame.result) c.take_frame.new.self
    (drop c.padded_end.result c.args.datagram.now) starts c.take_frame.ensures.item c.take_frame.ensures.state
    (rest_after c.args.datagram.now c.in-Some-Ok.frame.now next c.args.cursor.now c.padded_end.result starts c.padded_end.ensures)

pub returns-in-Some-Ok-clause-place : goal.returns-in-Some-Ok-clause-place
returns-in-Some-Ok-clause-place c =
    let step = rw c.in-Some-Ok.field-0-is at c.in-Some-Ok.ensures.steps in
    let datagram : List ℕ = c.args.datagram.now in
    let start : ℕ = c.args.cursor.now in
    let next : List ℕ = unread_frames c.next.new.self in
    let starts : StartsFrame (drop start datagram) c.in-Some-Ok.frame.now next =
    subst (λ (b : List ℕ). StartsFrame b c.in-Some-Ok.frame.now next) (c.new-walk.ensures.keeps ∙ take_rest datagram start) step.1 in
    if_reply c.take_frame.result _ (record {
      frame = c.in-Some-Ok.frame.now;
      starts = subst (λ (r : List ℕ). StartsFrame (drop start datagram) c.in-Some-Ok.frame.now r)
          (sym (rest_after datagram c.in-Some-Ok.frame.now next start c.padded_end.result starts c.padded_end.ensures)) starts;
      before = c.args.self.now;
      means = c.take_frame.ensures.item;
      state = c.take_frame.ensures.state;
    })

pub returns-in-Some-Err-clause-frame : goal.returns-in-Some-Err-clause-frame
returns-in-Some-Err-clause-frame c =
    let step = rw c.in-Some-Err.field-0-is at c.in-Some-Err.ensures.steps in
    let bytes : List ℕ = drop c.args.cursor.now c.args.datagram.now in
    let inside = c.requires.inside in
    let some : bytes ≢ [] = λ none. omega (arith, ap length none, length-drop c.args.cursor.now c.args.datagram.now) in
    fault_steps c.args.self.now bytes c.in-Some-Err.error (drop (length c.args.datagram.now) c.args.datagram.now) some
    (subst (λ (b : List ℕ). IsFrameFault false b c.in-Some-Err.error) (c.new-walk.ensures.keeps ∙ take_rest c.args.datagram.now c.args.cursor.now) step.1)
    (drop_all (length c.args.datagram.now) c.args.datagram.now (omega arith))
