use Rattle.std.proofs.Common.{rules}
use Rattle.netlink_link_lines.specs.Link.{link_line}
use Rattle.netlink_link_lines.proofs.link.line_of.Goals as goal

pub returns : goal.returns
unfolding link_line
returns c = search rules
