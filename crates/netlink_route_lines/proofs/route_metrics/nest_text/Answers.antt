use Rattle.std.proofs.Common.{ℕ, List, [], get_or, ap, sym, ◌≡◌, ◌∙◌, arith, rules, string_bytes}
use Rattle.std.proofs.lemmas.List.Sums.{fold_more}
use Rattle.netlink_words.specs.Parts.{with_part}
use Rattle.netlink_route_lines.specs.RouteMetrics.{metric_kinds, metric_of, with_metric}
use Rattle.netlink_route_lines.proofs.route_metrics.nest_text.Goals as goal

pub loop-kind-preserved : goal.loop-kind-preserved
loop-kind-preserved c =
    let nest : List ℕ = c.args.metrics.now.view.block.now in
    let i : ℕ = c.loop-kind.kind-index in
    let part : c.as_str.result.now ≡ metric_of nest (get_or metric_kinds i 0) = search rules in
    c.in_ok-push_part.ensures
    ∙ ap (λ (p : List ℕ). with_part (string_bytes c.loop-kind.text) p) part
    ∙ ap (λ (t : List ℕ). with_metric nest t (get_or metric_kinds i 0)) c.loop-kind.invariant
    ∙ sym (fold_more (with_metric nest) [] metric_kinds i 0 (omega arith))
