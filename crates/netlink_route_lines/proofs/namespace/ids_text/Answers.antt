use Rattle.std.proofs.Common.{rules}
use Rattle.netlink_route_lines.specs.Namespace.{id_parts}
use Rattle.netlink_route_lines.proofs.namespace.ids_text.Goals as goal

pub returns : goal.returns
unfolding id_parts
returns c = search rules
