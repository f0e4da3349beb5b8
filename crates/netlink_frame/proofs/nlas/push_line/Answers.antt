use Rattle.netlink_packet_core.specs.Views.{attribute_of, shown}
use Rattle.netlink_frame.proofs.Lines.{line_added}
use Rattle.netlink_frame.proofs.nlas.push_line.Goals as goal

pub returns : goal.returns
returns c =
    line_added _ _ _ _ _ _ (attribute_of (shown c.args.nla.now)) _
    c.in_ok-push_kind.ensures c.in-Ok.ensures.bytes c.in_ok-push_hex.ensures.appends c.in_ok-push_str.ensures.bytes c.raw_kind.ensures.number
    c.value-value.ensures.bytes
