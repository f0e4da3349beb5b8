use Rattle.std.proofs.Common.{◌≡◌, length}
use Rattle.netlink_shapes.specs.Shapes.{nul_terminated}
use Rattle.netlink_shapes.proofs.shape.is_nul_terminated.Given as goal

abbrev pub invariant-loop-rest : goal.invariant-loop-rest
invariant-loop-rest l = nul_terminated l.bytes ≡ nul_terminated l.rest

abbrev pub decreases-loop-rest : goal.decreases-loop-rest
decreases-loop-rest l = length l.rest
