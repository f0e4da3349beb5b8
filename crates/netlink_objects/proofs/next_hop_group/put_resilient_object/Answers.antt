use Rattle.std.proofs.Common.{[], ◌∷◌, rules}
use Rattle.netlink_objects.specs.NextHopGroup.{resilient_fields}
use Rattle.netlink_objects.proofs.next_hop_group.put_resilient_object.Goals as goal

pub returns : goal.returns
returns c = c.in_ok-put_object.ensures.adds (resilient_fields c.args.nest.now.block.now ∷ []) (search rules)
