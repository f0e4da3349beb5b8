use Rattle.std.proofs.Common.{ℕ, List, get_or, ap, sym, ◌∙◌, arith, string_bytes}
use Rattle.std.proofs.lemmas.List.Sums.{fold_more}
use Rattle.netlink_address_lines.specs.Neighbour.{state_order, with_state}
use Rattle.netlink_address_lines.proofs.neighbour.push_states.Goals as goal

pub loop-bit-preserved : goal.loop-bit-preserved
loop-bit-preserved c =
    let i : ℕ = c.loop-bit.bit-index in
    c.in_ok-push_state.ensures ∙ ap (λ (t : List ℕ). with_state c.args.states t (get_or state_order i 0)) c.loop-bit.invariant
    ∙ sym (fold_more (with_state c.args.states) (string_bytes c.args.text.now) state_order i 0 (omega arith))
