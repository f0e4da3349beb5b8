use Rattle.std.proofs.Common.{◌≡◌, ◌∙◌, ap, arith, rules, ℤ}
use Rattle.std.specs.Int.{cast_unsigned, w32}
use Rattle.netlink_packet_core.specs.Fields.{number_at}
use Rattle.netlink_words.specs.Signed.{index_cast}
use Rattle.netlink_address_lines.proofs.neighbour.index_in.Goals as goal

pub returns : goal.returns
returns c =
    let small : cast_unsigned w32 c.args.index ≡ number_at 4 4 c.args.header.now =
    ap (λ (z : ℤ). cast_unsigned w32 z) c.requires ∙ index_cast c.args.header.now (λ i. omega (arith, c.type_inv.header i)) in
    search rules
