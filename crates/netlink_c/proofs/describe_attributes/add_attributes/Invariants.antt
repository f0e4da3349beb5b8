use Rattle.std.proofs.Common.{length, ◌-◌}
use Rattle.netlink_c.proofs.AttributeTexts.{Along}
use Rattle.netlink_c.proofs.describe_attributes.add_attributes.Given as goal

-- the lines of the attributes up to `from` are written
abbrev pub invariant-loop-from : goal.invariant-loop-from
invariant-loop-from l = Along l.block l.fn.buffer l.buffer l.at l.to l.from

abbrev pub decreases-loop-from : goal.decreases-loop-from
decreases-loop-from l = length l.block - l.from
