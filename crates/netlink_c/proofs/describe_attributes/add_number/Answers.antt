use Rattle.std.proofs.Common.{ℕ, arith, ap, ◌≡◌, ◌-◌, drop, length}
use Rattle.std.proofs.lemmas.Fmt.{length-decimal-le}
use Rattle.std.proofs.lemmas.List.{length-take}
use Rattle.std.specs.Fmt.{decimal}
use Rattle.netlink_c.proofs.describe_attributes.add_number.Goals as goal

pub returns-clause-bound : goal.returns-clause-bound
returns-clause-bound c =
    let start : ℕ = c.prepend_number-start.result in
    let digits = length-decimal-le 5 c.args.number (omega arith) (omega arith) (omega arith) in
    let size = c.prepend_number-start.ensures.size in
    let number : c.from.result ≡ c.args.number = c.from.ensures in
    let same = ap (λ (n : ℕ). length (decimal n)) number in
    let taken = length-take (10 - start) (drop start c.prepend_number-start.new.lines) in
    omega (arith, digits, size, same, taken, c.add.ensures.ends)
