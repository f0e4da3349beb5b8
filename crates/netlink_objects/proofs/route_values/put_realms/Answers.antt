use Rattle.std.proofs.Common.{[], ◌∷◌, rules}
use Rattle.netlink_objects.specs.RouteValues.{realm_fields}
use Rattle.netlink_objects.proofs.route_values.put_realms.Goals as goal

pub returns : goal.returns
returns c = c.in_ok-put_object.ensures.adds (realm_fields c.args.from c.args.to ∷ []) (search rules)
