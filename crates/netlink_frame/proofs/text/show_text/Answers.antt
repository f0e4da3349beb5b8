use Rattle.netlink_frame.proofs.Lines.{message_joins}
use Rattle.netlink_frame.proofs.text.show_text.Goals as goal

pub returns-clause-lines : goal.returns-clause-lines
returns-clause-lines c =
    message_joins _ _ _ _ _ _ _ _ c.in_ok-text.ensures c.in_ok-push_str.ensures.bytes c.in_ok-push_payload.ensures
    c.in_ok-push_str-2.ensures.bytes
