use Rattle.std.proofs.Common.{◌≡◌, map}
use Rattle.netlink_packet_core.specs.Steps.{unread}
use Rattle.netlink_family.specs.Listing.{listed}
use Rattle.netlink_json.specs.Fields.{items_written, with_items}
use Rattle.netlink_objects.specs.RouteHops.{outgoing_json}
use Rattle.netlink_objects.proofs.multicast_route.put_outgoing_list.Given as goal

-- the rest of the links leads to the whole array
abbrev pub invariant-loop-word : goal.invariant-loop-word
invariant-loop-word l =
    (with_items (items_written l.items) (map (outgoing_json l.known) (listed (unread l.word-iterator.walk)))
    ≡ with_items (items_written l.fn.items) (map (outgoing_json l.known) (listed l.hops.block.now)))
    × (l.word-iterator.rows.list.now ≡ l.hops.rows.list.now) × (l.word-iterator.policy ≡ l.hops.policy)
