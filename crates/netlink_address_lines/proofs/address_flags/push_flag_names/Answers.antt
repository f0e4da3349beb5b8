use Rattle.std.proofs.Common.{ℕ, List, get_or, ap, sym, ◌∙◌, arith, string_bytes}
use Rattle.std.proofs.lemmas.List.Sums.{fold_more}
use Rattle.netlink_address_lines.specs.AddressFlags.{flag_order, with_flag}
use Rattle.netlink_address_lines.proofs.address_flags.push_flag_names.Goals as goal

pub loop-bit-preserved : goal.loop-bit-preserved
loop-bit-preserved c =
    let i : ℕ = c.loop-bit.bit-index in
    c.in_ok-push_flag.ensures
    ∙ ap (λ (t : List ℕ). with_flag c.args.family c.args.flags t (get_or flag_order i 0)) c.loop-bit.invariant
    ∙ sym (fold_more (with_flag c.args.family c.args.flags) (string_bytes c.args.text.now) flag_order i 0 (omega arith))
