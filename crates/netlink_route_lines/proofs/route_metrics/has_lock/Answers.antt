use Rattle.std.proofs.Common.{rules}
use Rattle.netlink_route_lines.proofs.route_metrics.has_lock.Goals as goal

pub returns : goal.returns
returns c = search rules
