use Rattle.std.proofs.Common.{length}
use Rattle.netlink_shapes.specs.PolicyRows.{AreAsked}
use Rattle.netlink_family.proofs.late.chooses.Given as goal

abbrev pub invariant-loop-rest : goal.invariant-loop-rest
invariant-loop-rest l = AreAsked l.kind l.rows.list.now l.rest

abbrev pub decreases-loop-rest : goal.decreases-loop-rest
decreases-loop-rest l = length l.rest
