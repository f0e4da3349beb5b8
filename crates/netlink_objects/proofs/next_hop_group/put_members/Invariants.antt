use Rattle.std.proofs.Common.{◌≡◌, length}
use Rattle.netlink_json.specs.Fields.{items_written, with_items}
use Rattle.netlink_objects.specs.NextHopGroup.{group_items}
use Rattle.netlink_objects.proofs.next_hop_group.put_members.Given as goal

-- the members in the rest lead to the whole array
abbrev pub invariant-loop-rest : goal.invariant-loop-rest
invariant-loop-rest l =
    with_items (items_written l.items) (group_items l.rest) ≡ with_items (items_written l.fn.items) (group_items l.group)

abbrev pub decreases-loop-rest : goal.decreases-loop-rest
decreases-loop-rest l = length l.rest
