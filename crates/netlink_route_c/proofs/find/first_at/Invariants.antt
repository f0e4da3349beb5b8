use Rattle.std.proofs.Common.{◌≡◌, ◌-◌, drop, length}
use Rattle.netlink_family.specs.Listing.{first_of, listed}
use Rattle.netlink_route_c.proofs.find.first_at.Given as goal

-- no attribute before the offset has this kind
abbrev pub invariant-loop-at : goal.invariant-loop-at
invariant-loop-at l = first_of l.kind (listed l.block) ≡ first_of l.kind (listed (drop l.at l.block))

abbrev pub decreases-loop-at : goal.decreases-loop-at
decreases-loop-at l = length l.block - l.at
