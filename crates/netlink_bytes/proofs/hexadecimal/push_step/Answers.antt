use Rattle.std.proofs.Common.{IsUtf8, arith, subst, sym}
use Rattle.std.proofs.lemmas.Str.{IsUtf8-from_ascii}
use Rattle.netlink_bytes.proofs.Digits.{digits_ascii}
use Rattle.netlink_bytes.proofs.hexadecimal.push_step.Goals as goal

pub returns-in-Err-clause-appends : goal.returns-in-Err-clause-appends
returns-in-Err-clause-appends c =
    let text = IsUtf8-from_ascii _ (digits_ascii c.args.bytes.now (λ i. omega (arith, c.type_inv.bytes i))) in
    absurd (c.in-Err.ensures.cases.0 (subst IsUtf8 (sym c.write_pairs.ensures.digits) text))

pub returns-in-Err-clause-len : goal.returns-in-Err-clause-len
returns-in-Err-clause-len c =
    let text = IsUtf8-from_ascii _ (digits_ascii c.args.bytes.now (λ i. omega (arith, c.type_inv.bytes i))) in
    absurd (c.in-Err.ensures.cases.0 (subst IsUtf8 (sym c.write_pairs.ensures.digits) text))
