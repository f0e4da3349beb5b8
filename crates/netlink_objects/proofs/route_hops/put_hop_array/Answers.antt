use Rattle.std.proofs.Common.{map, rules}
use Rattle.netlink_family.specs.Listing.{listed}
use Rattle.netlink_objects.specs.RouteHops.{hop_json}
use Rattle.netlink_objects.proofs.route_hops.put_hop_array.Goals as goal

pub returns : goal.returns
returns c =
    c.in_ok-put_array.ensures.adds (map (hop_json c.args.known.now c.args.family) (listed c.args.hops.now.block.now)) (search rules)
