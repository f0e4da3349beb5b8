use Rattle.std.proofs.Common.{◌≡◌, drop}
use Rattle.netlink_json.specs.Fields.{items_written, with_items}
use Rattle.netlink_objects.specs.RouteValues.{set_items}
use Rattle.netlink_route_lines.specs.RouteFlags.{hop_flag_name, hop_flag_order}
use Rattle.netlink_objects.proofs.route_flags.put_flag_names.Given as goal

-- the rest of the flags leads to the whole array
abbrev pub invariant-loop-bit : goal.invariant-loop-bit
invariant-loop-bit l =
    with_items (items_written l.items) (set_items hop_flag_name l.flags (drop l.bit-index hop_flag_order))
    ≡ with_items (items_written l.fn.items) (set_items hop_flag_name l.flags hop_flag_order)
