use Rattle.std.proofs.Common.{arith, ◌+◌, ◌-◌, ◌/◌, ℕ}
use Rattle.netlink_shapes.specs.RowSearch.{between_step, found_at, none_left}
use Rattle.netlink_shapes.proofs.shape.search.Goals as goal

pub returns-then-is_equal : goal.returns-then-is_equal
returns-then-is_equal c =
    found_at c.args.policy c.args.kind c.args.rows.list.now _ c.args.rows.sorted (omega arith) c.is_equal.result c.is_equal.ensures
    c.if-is_equal.true

pub loop-low-preserved : goal.loop-low-preserved
loop-low-preserved c =
    let middle : ℕ = c.loop-low.low + (c.loop-low.high - c.loop-low.low) / 2 in
    between_step c.args.policy c.args.kind c.args.rows.list.now c.loop-low.low middle c.loop-low.high c.loop-low.invariant
    c.args.rows.sorted (omega arith) (omega arith) c.is_equal.result c.is_before.result c.half.result c.is_equal.ensures
    c.if-is_equal.false c.is_before.ensures c.half.ensures

pub returns : goal.returns
returns c =
    none_left c.args.policy c.args.kind c.args.rows.list.now c.loop-low.low c.loop-low.high c.loop-low.invariant (omega arith)
