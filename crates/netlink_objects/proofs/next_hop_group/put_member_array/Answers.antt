use Rattle.std.proofs.Common.{rules}
use Rattle.netlink_objects.specs.NextHopGroup.{group_items}
use Rattle.netlink_objects.proofs.next_hop_group.put_member_array.Goals as goal

pub returns : goal.returns
returns c = c.in_ok-put_array.ensures.adds (group_items c.args.group.now) (search rules)
