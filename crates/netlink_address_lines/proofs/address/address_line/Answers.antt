use Rattle.std.proofs.Common.{rules}
use Rattle.netlink_address_lines.specs.Address.{address_line}
use Rattle.netlink_address_lines.proofs.address.address_line.Goals as goal

pub returns : goal.returns
unfolding address_line
returns c = search rules
