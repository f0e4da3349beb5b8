use Rattle.std.proofs.Common.{[], ◌∷◌, rules}
use Rattle.netlink_objects.specs.NextHopObject.{bucket_fields}
use Rattle.netlink_objects.proofs.next_hop_object.put_bucket_object.Goals as goal

pub returns : goal.returns
returns c = c.in_ok-put_object.ensures.adds (bucket_fields c.args.nest.now.block.now ∷ []) (search rules)
