use Rattle.std.proofs.Common.{rules}
use Rattle.netlink_objects.specs.RouteValues.{flag_items}
use Rattle.netlink_objects.proofs.route_flags.put_hop_flags.Goals as goal

pub returns : goal.returns
returns c = c.in_ok-put_array.ensures.adds (flag_items c.args.flags) (search rules)
