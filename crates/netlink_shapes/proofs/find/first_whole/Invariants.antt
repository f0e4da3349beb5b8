use Rattle.std.proofs.Common.{◌≡◌, ◌-◌, drop, length}
use Rattle.netlink_shapes.specs.Listing.{first_of, listed}
use Rattle.netlink_shapes.specs.Whole.{IsWhole}
use Rattle.netlink_shapes.proofs.find.first_whole.Given as goal

-- no attribute before the offset has this kind
abbrev pub invariant-loop-at : goal.invariant-loop-at
invariant-loop-at l =
    IsWhole (drop l.at l.block) × (first_of l.kind (listed l.block) ≡ first_of l.kind (listed (drop l.at l.block)))

abbrev pub decreases-loop-at : goal.decreases-loop-at
decreases-loop-at l = length l.block - l.at
