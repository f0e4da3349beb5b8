use Rattle.std.proofs.Common.{◌≡◌, ◌∙◌, ap, rules, sym}
use Rattle.std.specs.Int.Bits.{bit_and}
use Rattle.netlink_json.specs.Fields.{Written, items_written, no_field, with_items}
use Rattle.netlink_objects.specs.RouteValues.{cache_items, named_cache_items, rest_items}
use Rattle.netlink_objects.proofs.Items.{items_append}
use Rattle.netlink_objects.proofs.route_flags.put_cached.Goals as goal

pub returns : goal.returns
returns c =
    let named : items_written c.put_cache_names.new.items ≡ with_items no_field (named_cache_items c.args.flags) = search rules in
    let all : items_written c.put_rest.new.items ≡ with_items no_field (cache_items c.args.flags) =
    c.in_ok-put_rest.ensures
    ∙ ap (λ (w : Written). with_items w (rest_items (bit_and c.args.flags 0x02100000))) named
    ∙ sym (items_append no_field (named_cache_items c.args.flags) (rest_items (bit_and c.args.flags 0x02100000))) in
    c.in_ok-put_array.ensures.adds (cache_items c.args.flags) all
