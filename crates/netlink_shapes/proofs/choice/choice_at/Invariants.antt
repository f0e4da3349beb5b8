use Rattle.std.proofs.Common.{length}
use Rattle.netlink_shapes.specs.PolicyRows.{AreUnread}
use Rattle.netlink_shapes.proofs.choice.choice_at.Given as goal

abbrev pub invariant-loop-rest : goal.invariant-loop-rest
invariant-loop-rest l = AreUnread l.policy l.name l.rows.list.now l.rest

abbrev pub decreases-loop-rest : goal.decreases-loop-rest
decreases-loop-rest l = length l.rest
