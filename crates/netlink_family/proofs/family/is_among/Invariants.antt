use Rattle.std.proofs.Common.{◌≡◌, length}
use Rattle.netlink_shapes.specs.Shapes.{has_type}
use Rattle.netlink_family.proofs.family.is_among.Given as goal

abbrev pub invariant-loop-rest : goal.invariant-loop-rest
invariant-loop-rest l = has_type l.types l.message_type ≡ has_type l.rest l.message_type

abbrev pub decreases-loop-rest : goal.decreases-loop-rest
decreases-loop-rest l = length l.rest
