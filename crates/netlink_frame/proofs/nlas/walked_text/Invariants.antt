use Rattle.std.proofs.Common.{List, ◌≡◌, string_bytes}
use Rattle.netlink_packet_core.specs.Attribute.{Attribute}
use Rattle.netlink_packet_core.specs.Progress.{Passes}
use Rattle.netlink_packet_core.specs.Steps.{unread}
use Rattle.netlink_frame.specs.Lines.{nla_lines}
use Rattle.netlink_frame.proofs.nlas.walked_text.Given as goal

-- some attributes have been passed, and their lines have been appended
abbrev pub invariant-loop-item : goal.invariant-loop-item
invariant-loop-item l = (done : List Attribute) × Passes l.block done (unread l.item-iterator) × (string_bytes l.text ≡ nla_lines done)
