use Rattle.std.proofs.Common.{◌≡◌, [], take, string_bytes}
use Rattle.std.specs.List.{fold}
use Rattle.netlink_route_lines.specs.RouteMetrics.{metric_kinds, with_metric}
use Rattle.netlink_route_lines.proofs.route_metrics.nest_text.Given as goal

-- the metrics so far are written
abbrev pub invariant-loop-kind : goal.invariant-loop-kind
invariant-loop-kind l = string_bytes l.text ≡ fold (with_metric l.metrics.view.block.now) [] (take l.kind-index metric_kinds)
