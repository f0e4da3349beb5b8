use Rattle.std.proofs.Common.{◌≡◌, [], ◌∷◌, List, map, rules}
use Rattle.netlink_json.specs.Fields.{Field, items_written, joined, no_field, object_of, with_item, with_parts, written}
use Rattle.netlink_objects.specs.RouteMetrics.{metric_fields}
use Rattle.netlink_route_lines.specs.RouteMetrics.{metric_kinds}
use Rattle.netlink_objects.proofs.route_metrics.put_nest_array.Goals as goal

pub returns : goal.returns
returns c =
    let parts : List (List Field) = map (metric_fields c.args.nest.now.view.block.now) metric_kinds in
    let inner : written c.put_nest.new.object ≡ with_parts no_field parts = search rules in
    let item : items_written c.put_object.new.self ≡ with_item no_field (object_of (joined parts)) =
    cc (c.in_ok-put_object.ensures.adds parts inner) in
    c.in_ok-put_array.ensures.adds (object_of (joined parts) ∷ []) item
