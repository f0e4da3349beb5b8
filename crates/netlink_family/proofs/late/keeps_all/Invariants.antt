use Rattle.std.proofs.Common.{◌≡◌}
use Rattle.std.specs.List.{list_all}
use Rattle.netlink_packet_core.specs.Steps.{unread}
use Rattle.netlink_shapes.specs.Listing.{listed}
use Rattle.netlink_shapes.specs.Shapes.{rows_in, within}
use Rattle.netlink_family.proofs.Appending.{keeps}
use Rattle.netlink_family.proofs.late.keeps_all.Given as goal

abbrev pub invariant-loop-item : goal.invariant-loop-item
invariant-loop-item l =
    list_all (keeps (within (rows_in l.rows.list.now) l.block) l.kind) (listed l.block)
    ≡ list_all (keeps (within (rows_in l.rows.list.now) l.block) l.kind) (listed (unread l.item-iterator))
