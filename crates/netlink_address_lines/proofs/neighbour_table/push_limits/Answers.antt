use Rattle.std.proofs.Common.{rules}
use Rattle.netlink_address_lines.specs.NeighbourTable.{limit_parts}
use Rattle.netlink_address_lines.proofs.neighbour_table.push_limits.Goals as goal

pub returns : goal.returns
unfolding limit_parts
returns c = search rules
