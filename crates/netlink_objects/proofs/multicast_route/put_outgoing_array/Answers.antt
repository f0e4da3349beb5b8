use Rattle.std.proofs.Common.{map, rules}
use Rattle.netlink_family.specs.Listing.{listed}
use Rattle.netlink_objects.specs.RouteHops.{outgoing_json}
use Rattle.netlink_objects.proofs.multicast_route.put_outgoing_array.Goals as goal

pub returns : goal.returns
returns c =
    c.in_ok-put_array.ensures.adds (map (outgoing_json c.args.known.now) (listed c.args.hops.now.block.now)) (search rules)
