use Rattle.std.proofs.Common.{◌≡◌, string_bytes}
use Rattle.std.specs.List.{fold}
use Rattle.netlink_packet_core.specs.Steps.{unread}
use Rattle.netlink_bridge_lines.specs.Sources.{with_entry}
use Rattle.netlink_shapes.specs.Listing.{listed}
use Rattle.netlink_bridge_lines.proofs.sources.push_list.Given as goal

-- the rest of the list leads to the whole text
abbrev pub invariant-loop-item : goal.invariant-loop-item
invariant-loop-item l =
    fold with_entry (string_bytes l.text) (listed (unread l.item-iterator))
    ≡ fold with_entry (string_bytes l.fn.text) (listed l.list)
