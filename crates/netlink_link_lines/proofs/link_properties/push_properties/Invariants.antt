use Rattle.std.proofs.Common.{◌≡◌, string_bytes}
use Rattle.std.specs.List.{fold}
use Rattle.netlink_packet_core.specs.Steps.{unread}
use Rattle.netlink_family.specs.Listing.{listed}
use Rattle.netlink_link_lines.specs.LinkProperties.{with_alternative}
use Rattle.netlink_link_lines.proofs.link_properties.push_properties.Given as goal

-- the rest of the properties leads to the whole text
abbrev pub invariant-loop-kind : goal.invariant-loop-kind
invariant-loop-kind l =
    (fold with_alternative (string_bytes l.text) (listed (unread l.kind-iterator.walk))
    ≡ fold with_alternative (string_bytes l.fn.text) (listed l.properties.block.now))
    × (l.kind-iterator.rows.list.now ≡ l.properties.rows.list.now) × (l.kind-iterator.policy ≡ l.properties.policy)
