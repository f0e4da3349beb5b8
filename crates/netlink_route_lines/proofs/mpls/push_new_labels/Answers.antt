use Rattle.std.proofs.Common.{rules}
use Rattle.netlink_route_lines.proofs.mpls.push_new_labels.Goals as goal

pub returns : goal.returns
returns c = search rules
