use Rattle.std.proofs.Common.{rules, FitsSigned, w32, arith}
use Rattle.std.proofs.lemmas.Int.{to_z-of_z}
use Rattle.std.proofs.lemmas.List.{take_rest}
use Rattle.netlink_packet_core.proofs.Numbers.{code_of-front}
use Rattle.netlink_packet_core.proofs.bytes.split_code.Goals as goal

pub returns-clause-parts : goal.returns-clause-parts
returns-clause-parts c =
    let fits : FitsSigned w32 c.i32_at.result = search rules in
    rw (to_z-of_z, c.i32_at.ensures.number, take_rest c.args.payload.now 4)
    (code_of-front c.args.payload.now (λ i. omega (arith, c.type_inv.payload i)) c.requires)
