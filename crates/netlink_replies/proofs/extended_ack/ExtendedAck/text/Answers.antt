use Rattle.std.proofs.Common.{ℕ, List, Option, None, refl, subst}
use Rattle.netlink_replies.specs.AckValues.{ShowsText}
use Rattle.netlink_replies.proofs.extended_ack.ExtendedAck.text.Goals as goal

pub returns-in-Some : goal.returns-in-Some
returns-in-Some c = λ all fault walk.
    subst (λ (v : Option (List ℕ)). ShowsText v c.text_of.result) (c.in-Some.ensures all fault walk)
    (c.text_of.ensures.text, c.text_of.ensures.utf8)

pub returns-in-None : goal.returns-in-None
returns-in-None c = λ all fault walk.
    subst (λ (v : Option (List ℕ)). ShowsText v None) (c.in-None.ensures all fault walk) refl
