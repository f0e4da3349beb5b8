use Rattle.std.proofs.Common.{◌≡◌, ◌-◌, ◌%◌, drop, length}
use Rattle.netlink_blocks.specs.Index.{ArePlaces}
use Rattle.netlink_shapes.specs.Whole.{IsWhole}
use Rattle.netlink_blocks.proofs.block_index.placed.Given as goal

-- the places are those of the attributes before the offset
abbrev pub invariant-loop-at : goal.invariant-loop-at
invariant-loop-at l = record {
  whole : IsWhole (drop l.at l.block);
  multiple : l.at % 4 ≡ 0;
  size : length l.places ≡ 64;
  places : ArePlaces l.block (drop l.at l.block) l.places;
}

abbrev pub decreases-loop-at : goal.decreases-loop-at
decreases-loop-at l = length l.block - l.at
