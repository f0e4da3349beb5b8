use Rattle.std.proofs.Common.{[], ◌∷◌, rules}
use Rattle.netlink_objects.specs.RouteValues.{host_fields}
use Rattle.netlink_objects.proofs.route_values.put_host.Goals as goal

pub returns : goal.returns
returns c = c.in_ok-put_object.ensures.adds (host_fields c.args.family c.args.address.now ∷ []) (search rules)
