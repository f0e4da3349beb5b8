use Rattle.std.proofs.Common.{◌-◌, ◌≤◌, length, drop}
use Rattle.netlink_shapes.specs.Policies.{IsPart}
use Rattle.netlink_shapes.specs.Shapes.{rows_in}
use Rattle.netlink_shapes.proofs.shape.rows_after.Given as goal

abbrev pub invariant-loop-low : goal.invariant-loop-low
invariant-loop-low l =
    (l.low ≤ l.high) × (l.high ≤ length l.rows.list.now) × IsPart l.policy (rows_in l.rows.list.now) (rows_in (drop l.low l.rows.list.now))

abbrev pub decreases-loop-low : goal.decreases-loop-low
decreases-loop-low l = l.high - l.low
