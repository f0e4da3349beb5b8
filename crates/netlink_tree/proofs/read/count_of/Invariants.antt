use Rattle.std.proofs.Common.{◌+◌, ◌*◌, ◌≤◌, length}
use Rattle.netlink_tree.proofs.read.count_of.Given as goal

-- an attribute takes at least four of the bytes
abbrev pub invariant-loop-nla : goal.invariant-loop-nla
invariant-loop-nla l = l.count * 4 + length l.rest ≤ length l.bytes

abbrev pub decreases-loop-nla : goal.decreases-loop-nla
decreases-loop-nla l = length l.rest
