use Rattle.std.proofs.Common.{rules}
use Rattle.netlink_route_lines.specs.Route.{route_front}
use Rattle.netlink_route_lines.proofs.route.push_front.Goals as goal

pub returns : goal.returns
unfolding route_front
returns c = search rules
