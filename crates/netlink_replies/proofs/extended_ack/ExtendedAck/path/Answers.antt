use Rattle.std.proofs.Common.{ℕ, Option, ap, ◌∙◌}
use Rattle.netlink_replies.specs.Paths.{place_in}
use Rattle.netlink_replies.proofs.extended_ack.ExtendedAck.path.Goals as goal

pub returns-in-Some-clause-block : goal.returns-in-Some-clause-block
returns-in-Some-clause-block c = λ all fault walk.
    c.path_in.ensures.block
    ∙ ap (λ (o : Option ℕ). (place_in o c.args.request.now c.args.size).0) (c.in-Some.ensures all fault walk)

pub returns-in-Some-clause-offset : goal.returns-in-Some-clause-offset
returns-in-Some-clause-offset c = λ all fault walk.
    c.path_in.ensures.offset
    ∙ ap (λ (o : Option ℕ). (place_in o c.args.request.now c.args.size).1) (c.in-Some.ensures all fault walk)

pub returns-in-None-clause-block : goal.returns-in-None-clause-block
returns-in-None-clause-block c = λ all fault walk.
    c.new.ensures.block
    ∙ ap (λ (o : Option ℕ). (place_in o c.args.request.now c.args.size).0) (c.in-None.ensures all fault walk)

pub returns-in-None-clause-offset : goal.returns-in-None-clause-offset
returns-in-None-clause-offset c = λ all fault walk.
    c.new.ensures.offset
    ∙ ap (λ (o : Option ℕ). (place_in o c.args.request.now c.args.size).1) (c.in-None.ensures all fault walk)
