use Rattle.std.proofs.Common.{◌≡◌, drop, map}
use Rattle.netlink_json.specs.Fields.{with_parts, written}
use Rattle.netlink_objects.specs.RouteMetrics.{metric_fields}
use Rattle.netlink_route_lines.specs.RouteMetrics.{metric_kinds}
use Rattle.netlink_objects.proofs.route_metrics.put_nest.Given as goal

-- the rest of the kinds leads to the whole object
abbrev pub invariant-loop-kind : goal.invariant-loop-kind
invariant-loop-kind l =
    with_parts (written l.object) (map (metric_fields l.metrics.view.block.now) (drop l.kind-index metric_kinds))
    ≡ with_parts (written l.fn.object) (map (metric_fields l.metrics.view.block.now) metric_kinds)
