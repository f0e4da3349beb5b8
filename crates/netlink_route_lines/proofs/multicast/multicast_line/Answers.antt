use Rattle.std.proofs.Common.{rules}
use Rattle.netlink_words.specs.Joined.{with_parts_append}
use Rattle.netlink_route_lines.specs.Multicast.{multicast_line}
use Rattle.netlink_route_lines.proofs.multicast.multicast_line.Goals as goal

pub returns : goal.returns
unfolding multicast_line
returns c = search (rules, with_parts_append)
