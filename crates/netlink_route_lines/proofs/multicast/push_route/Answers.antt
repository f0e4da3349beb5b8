use Rattle.std.proofs.Common.{rules}
use Rattle.netlink_route_lines.specs.Multicast.{route_parts}
use Rattle.netlink_route_lines.proofs.multicast.push_route.Goals as goal

pub returns : goal.returns
unfolding route_parts
returns c = search rules
