use Rattle.std.proofs.Common.{◌≡◌, ◌==◌, ℕ, arith, get_or, not, rules}
use Rattle.std.specs.Int.Bits.{bit_and}
use Rattle.netlink_json.specs.Fields.{items_written, with_items}
use Rattle.netlink_objects.specs.RouteValues.{named_item}
use Rattle.netlink_route_lines.specs.RouteCache.{cache_flag_name, cache_flag_order}
use Rattle.netlink_objects.proofs.Items.{bit_step}
use Rattle.netlink_objects.proofs.route_flags.put_cache_names.Goals as goal

pub loop-bit-preserved : goal.loop-bit-preserved
loop-bit-preserved c =
    let i : ℕ = c.loop-bit.bit-index in
    let put : items_written c.put_if.new.items ≡ with_items (items_written c.loop-bit.items)
    (named_item (not (bit_and c.args.flags (get_or cache_flag_order i 0) == 0)) (cache_flag_name (get_or cache_flag_order i 0))) =
    search rules in
    bit_step cache_flag_name c.args.flags cache_flag_order i (items_written c.loop-bit.items) (items_written c.put_if.new.items) _
    (omega arith) put c.loop-bit.invariant
