use Rattle.std.proofs.Common.{◌-◌, ◌≤◌, length, take}
use Rattle.netlink_shapes.specs.Policies.{IsPart}
use Rattle.netlink_shapes.specs.Shapes.{rows_in}
use Rattle.netlink_shapes.proofs.shape.rows_until.Given as goal

abbrev pub invariant-loop-low : goal.invariant-loop-low
invariant-loop-low l =
    (l.low ≤ l.high) × (l.high ≤ length l.rows.list.now) × IsPart l.policy (rows_in l.rows.list.now) (rows_in (take l.high l.rows.list.now))

abbrev pub decreases-loop-low : goal.decreases-loop-low
decreases-loop-low l = l.high - l.low
