use Rattle.std.proofs.Common.{arith, rules}
use Rattle.netlink_family.proofs.Payloads.{fits_by_own}
use Rattle.netlink_family.proofs.checked.is_too_long.Goals as goal

pub returns : goal.returns
returns c = λ all reads. fits_by_own c.args.block.now all _ (λ i. omega (arith, c.type_inv.block i)) (search rules) reads
