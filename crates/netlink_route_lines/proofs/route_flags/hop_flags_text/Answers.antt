use Rattle.std.proofs.Common.{ℕ, List, [], get_or, ap, sym, ◌∙◌, arith}
use Rattle.std.proofs.lemmas.List.Sums.{fold_more}
use Rattle.netlink_route_lines.specs.RouteFlags.{hop_flag_order, with_hop_flag}
use Rattle.netlink_route_lines.proofs.route_flags.hop_flags_text.Goals as goal

pub loop-bit-preserved : goal.loop-bit-preserved
loop-bit-preserved c =
    let i : ℕ = c.loop-bit.bit-index in
    c.in_ok-push_hop_flag.ensures ∙ ap (λ (t : List ℕ). with_hop_flag c.args.flags t (get_or hop_flag_order i 0)) c.loop-bit.invariant
    ∙ sym (fold_more (with_hop_flag c.args.flags) [] hop_flag_order i 0 (omega arith))
