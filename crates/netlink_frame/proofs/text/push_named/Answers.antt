use Rattle.netlink_frame.proofs.Lines.{name_joins}
use Rattle.netlink_frame.proofs.text.push_named.Goals as goal

pub returns : goal.returns
returns c = name_joins _ _ _ _ _ c.in_ok-push_str.ensures.bytes c.in_ok-push_hex.ensures.appends
