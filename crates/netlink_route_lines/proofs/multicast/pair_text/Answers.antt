use Rattle.std.proofs.Common.{rules}
use Rattle.netlink_route_lines.specs.Multicast.{pair_text}
use Rattle.netlink_route_lines.proofs.multicast.pair_text.Goals as goal

pub returns : goal.returns
unfolding pair_text
returns c = search rules
