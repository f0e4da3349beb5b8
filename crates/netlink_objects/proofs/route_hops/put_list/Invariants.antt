use Rattle.std.proofs.Common.{◌≡◌, map}
use Rattle.netlink_packet_core.specs.Steps.{unread}
use Rattle.netlink_family.specs.Listing.{listed}
use Rattle.netlink_json.specs.Fields.{items_written, with_items}
use Rattle.netlink_objects.specs.RouteHops.{hop_json}
use Rattle.netlink_objects.proofs.route_hops.put_list.Given as goal

-- the rest of the next hops leads to the whole array
abbrev pub invariant-loop-word : goal.invariant-loop-word
invariant-loop-word l =
    (with_items (items_written l.items) (map (hop_json l.known l.family) (listed (unread l.word-iterator.walk)))
    ≡ with_items (items_written l.fn.items) (map (hop_json l.known l.family) (listed l.hops.block.now)))
    × (l.word-iterator.rows.list.now ≡ l.hops.rows.list.now) × (l.word-iterator.policy ≡ l.hops.policy)
