use Rattle.std.proofs.Common.{◌≡◌, length}
use Rattle.netlink_shapes.specs.Shapes.{nul_only_last}
use Rattle.netlink_shapes.proofs.shape.has_nul_only_last.Given as goal

abbrev pub invariant-loop-rest : goal.invariant-loop-rest
invariant-loop-rest l = nul_only_last l.bytes ≡ nul_only_last l.rest

abbrev pub decreases-loop-rest : goal.decreases-loop-rest
decreases-loop-rest l = length l.rest
