use Rattle.std.proofs.Common.{[], ◌∷◌, rules}
use Rattle.netlink_objects.specs.NextHopGroup.{member_fields}
use Rattle.netlink_objects.proofs.next_hop_group.put_member.Goals as goal

pub returns : goal.returns
returns c = c.in_ok-put_object.ensures.adds (member_fields c.args.id c.args.less ∷ []) (search rules)
