use Rattle.std.proofs.Common.{◌-◌}
use Rattle.netlink_shapes.specs.RowSearch.{IsBetween}
use Rattle.netlink_shapes.proofs.shape.search.Given as goal

abbrev pub invariant-loop-low : goal.invariant-loop-low
invariant-loop-low l = IsBetween l.policy l.kind l.rows.list.now l.low l.high

abbrev pub decreases-loop-low : goal.decreases-loop-low
decreases-loop-low l = l.high - l.low
