use Rattle.std.proofs.Common.{◌≡◌, length}
use Rattle.netlink_bytes.specs.Numbers.{IsBytes}
use Rattle.netlink_shapes.specs.Listing.{first_of, listed}
use Rattle.netlink_shapes.proofs.find.first_value.Given as goal

-- no attribute before the rest has this kind
abbrev pub invariant-loop-nla : goal.invariant-loop-nla
invariant-loop-nla l = IsBytes l.rest × (first_of l.kind (listed l.block) ≡ first_of l.kind (listed l.rest))

abbrev pub decreases-loop-nla : goal.decreases-loop-nla
decreases-loop-nla l = length l.rest
