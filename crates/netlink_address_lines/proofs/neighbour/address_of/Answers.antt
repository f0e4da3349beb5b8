use Rattle.std.proofs.Common.{rules}
use Rattle.netlink_address_lines.proofs.neighbour.address_of.Goals as goal

pub returns : goal.returns
returns c = search rules
