use Rattle.std.proofs.Common.{ap, ◌∙◌}
use Rattle.std.specs.Prelude.{option_and_then}
use Rattle.netlink_replies.specs.AckValues.{number_of_value}
use Rattle.netlink_replies.proofs.extended_ack.ExtendedAck.number.Goals as goal

pub returns-in-Some : goal.returns-in-Some
returns-in-Some c = λ all fault walk.
    c.number_of.ensures ∙ ap (option_and_then number_of_value) (c.in-Some.ensures all fault walk)

pub returns-in-None : goal.returns-in-None
returns-in-None c = λ all fault walk. ap (option_and_then number_of_value) (c.in-None.ensures all fault walk)
