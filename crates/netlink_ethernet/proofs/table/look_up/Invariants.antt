use Rattle.std.proofs.Common.{◌≡◌, ◌≤◌, ◌<◌, ◌+◌, ◌-◌, ◌^◌}
use Rattle.netlink_ethernet.proofs.Search.{IsWithin}
use Rattle.netlink_ethernet.proofs.table.look_up.Given as goal

abbrev pub invariant-loop-left : goal.invariant-loop-left
invariant-loop-left l = record {
  rows : l.low + l.left ≤ 102;
  within : IsWithin l.sought l.low (l.low + l.left);
  counted : l.initial.comparisons ≤ l.comparisons;
  at_most_seven : l.comparisons ≤ l.initial.comparisons + 7;
  left : l.left < 2 ^ (7 - (l.comparisons - l.initial.comparisons));
  all_left : l.comparisons ≡ l.initial.comparisons → l.left ≡ 102;
}

abbrev pub decreases-loop-left : goal.decreases-loop-left
decreases-loop-left l = l.left
