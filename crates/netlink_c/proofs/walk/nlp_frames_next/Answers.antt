use Rattle.std.proofs.Common.{arith}
use Rattle.std.proofs.lemmas.List.{take_rest}
use Rattle.netlink_c.proofs.WalkLemmas.{frame_found}
use Rattle.netlink_c.proofs.walk.nlp_frames_next.Goals as goal

pub returns-in-Some-clause-item : goal.returns-in-Some-clause-item
returns-in-Some-clause-item c = λ _.
    frame_found c.args.bytes.now _ c.args.cursor.now _ _ (omega (arith, c.if-at-bytes.false)) (take_rest c.args.bytes.now c.args.cursor.now)
    c.in-Some.ensures.whole.0 c.in-Some.ensures.whole.1 c.after.ensures.rest c.after.ensures.forward
