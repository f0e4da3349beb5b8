use Rattle.std.proofs.Common.{rules}
use Rattle.netlink_route_lines.specs.Namespace.{namespace_line}
use Rattle.netlink_route_lines.proofs.namespace.namespace_text.Goals as goal

pub returns : goal.returns
unfolding namespace_line
returns c = search rules
