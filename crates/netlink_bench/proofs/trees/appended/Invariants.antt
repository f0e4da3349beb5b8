use Rattle.std.proofs.Common.{◌≡◌, ◌%◌, length}
use Rattle.netlink_bench.proofs.trees.appended.Given as goal

abbrev pub invariant-loop-item : goal.invariant-loop-item
invariant-loop-item l = length l.copy.items % 4 ≡ 0
