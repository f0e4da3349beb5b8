use Rattle.std.proofs.Common.{◌≡◌, string_bytes}
use Rattle.std.specs.List.{fold}
use Rattle.netlink_packet_core.specs.Steps.{unread}
use Rattle.netlink_family.specs.Listing.{listed}
use Rattle.netlink_route_lines.specs.Multicast.{with_outgoing}
use Rattle.netlink_route_lines.proofs.multicast.push_outgoing_list.Given as goal

-- the rest of the links leads to the whole text
abbrev pub invariant-loop-word : goal.invariant-loop-word
invariant-loop-word l =
    (fold (with_outgoing l.known) (string_bytes l.text) (listed (unread l.word-iterator.walk))
    ≡ fold (with_outgoing l.known) (string_bytes l.fn.text) (listed l.hops.block.now))
    × (l.word-iterator.rows.list.now ≡ l.hops.rows.list.now) × (l.word-iterator.policy ≡ l.hops.policy)
