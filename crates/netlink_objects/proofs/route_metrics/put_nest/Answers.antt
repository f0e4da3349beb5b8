use Rattle.std.proofs.Common.{arith}
use Rattle.netlink_json.specs.Fields.{written}
use Rattle.netlink_objects.specs.RouteMetrics.{metric_fields}
use Rattle.netlink_route_lines.specs.RouteMetrics.{metric_kinds}
use Rattle.netlink_objects.proofs.Items.{kind_step}
use Rattle.netlink_objects.proofs.route_metrics.put_nest.Goals as goal

pub loop-kind-preserved : goal.loop-kind-preserved
loop-kind-preserved c =
    kind_step (metric_fields c.args.metrics.now.view.block.now) metric_kinds c.loop-kind.kind-index (written c.loop-kind.object)
    (written c.put_metric.new.object) _ (omega arith) c.in_ok-put_metric.ensures c.loop-kind.invariant
