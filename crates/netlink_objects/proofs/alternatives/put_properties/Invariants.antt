use Rattle.std.proofs.Common.{◌≡◌}
use Rattle.netlink_family.specs.Listing.{listed}
use Rattle.netlink_json.specs.Fields.{items_written, with_items}
use Rattle.netlink_objects.specs.Link.{alternatives}
use Rattle.netlink_packet_core.specs.Steps.{unread}
use Rattle.netlink_objects.proofs.alternatives.put_properties.Given as goal

-- the rest of the properties leads to the whole array
abbrev pub invariant-loop-kind : goal.invariant-loop-kind
invariant-loop-kind l =
    (with_items (items_written l.items) (alternatives (listed (unread l.kind-iterator.walk)))
    ≡ with_items (items_written l.fn.items) (alternatives (listed l.properties.block.now)))
    × (l.kind-iterator.rows.list.now ≡ l.properties.rows.list.now) × (l.kind-iterator.policy ≡ l.properties.policy)
