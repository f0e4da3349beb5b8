use Rattle.std.proofs.Common.{arith, ◌+◌, ◌-◌, ◌/◌, ℕ}
use Rattle.netlink_shapes.specs.PolicyRows.{take_smaller}
use Rattle.netlink_shapes.proofs.shape.rows_until.Goals as goal

pub loop-low-preserved-then-rows-middle : goal.loop-low-preserved-then-rows-middle
loop-low-preserved-then-rows-middle c =
    let middle : ℕ = c.loop-low.low + (c.loop-low.high - c.loop-low.low) / 2 in
    (omega arith, omega arith, take_smaller c.args.policy c.args.rows.list.now middle c.args.rows.sorted (omega arith) (omega arith))
