use Rattle.std.proofs.Common.{rules}
use Rattle.netlink_route_lines.proofs.multicast.is_multicast.Goals as goal

pub returns : goal.returns
returns c = search rules
