use Rattle.std.proofs.Common.{Some, ap, ◌∙◌}
use Rattle.std.specs.Option.{option_map}
use Rattle.netlink_replies.specs.AckValues.{without_nul}
use Rattle.netlink_replies.proofs.extended_ack.ExtendedAck.message.Goals as goal

pub returns-in-Some : goal.returns-in-Some
returns-in-Some c = λ all fault walk.
    ap Some c.without_nul.ensures ∙ ap (option_map without_nul) (c.in-Some.ensures all fault walk)

pub returns-in-None : goal.returns-in-None
returns-in-None c = λ all fault walk. ap (option_map without_nul) (c.in-None.ensures all fault walk)
