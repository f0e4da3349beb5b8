use Rattle.std.proofs.Common.{◌≡◌, ℕ, ◌/◌, List, ◌++◌, length, drop, sym, ap, ◌∙◌, refl, arith}
use Rattle.std.proofs.lemmas.Fmt.{decimal_digit, decimal_nonempty, length-decimal-le}
use Rattle.std.specs.Fmt.{decimal}
use Rattle.netlink_c.proofs.DescribeLemmas.{digit_before, length-decimal-step}
use Rattle.netlink_c.proofs.describe.prepend_number.Goals as goal

pub loop-left-init : goal.loop-left-init
loop-left-init c = (
  omega (arith, length-decimal-le 10 c.args.number (omega arith) (omega arith) (omega arith)),
  omega arith,
  omega arith,
  refl,
)

pub prepend-at-requires : goal.prepend-at-requires
prepend-at-requires c =
    let some = decimal_nonempty c.loop-left.left (omega arith) in
    record {
      room = (
        omega (arith, some, c.loop-left.invariant.0),
        omega arith,
      );
    }

pub loop-left-preserved : goal.loop-left-preserved
loop-left-preserved c =
    let left : ℕ = c.loop-left.left in
    let fits = c.loop-left.auto.left-fits.fits in
    let many = c.loop-left-test.true in
    let step = length-decimal-step left (omega arith) (omega arith) in
    let so_far = c.loop-left.invariant in
    let size = c.prepend-at.ensures.size in (
      omega (arith, step, so_far.0, size),
      omega (arith, so_far.1, size),
      omega (arith, step, so_far.2, size),
      ap (λ (t : List ℕ). decimal (left / 10) ++ t) c.prepend-at.ensures.written
          ∙ digit_before left (drop c.loop-left.at c.loop-left.lines) (omega arith) (omega arith) ∙ so_far.3,
    )

pub prepend-requires : goal.prepend-requires
prepend-requires c =
    let some = decimal_nonempty c.loop-left.left (omega arith) in
    record {
      room = (
        omega (arith, some, c.loop-left.invariant.0),
        omega arith,
      );
    }

pub returns-clause-size : goal.returns-clause-size
returns-clause-size c =
    let one : length (decimal c.loop-left.left) ≡ 1 = ap length (decimal_digit c.loop-left.left (omega arith)) in
    omega (arith, one, c.loop-left.invariant.2, c.prepend.ensures.size)

pub returns-clause-written : goal.returns-clause-written
returns-clause-written c =
    c.prepend.ensures.written
    ∙ ap (λ (t : List ℕ). t ++ drop c.loop-left.at c.loop-left.lines) (sym (decimal_digit c.loop-left.left (omega arith)))
    ∙ c.loop-left.invariant.3
