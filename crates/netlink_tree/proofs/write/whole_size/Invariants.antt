use Rattle.std.proofs.Common.{◌≡◌, ◌+◌, ◌-◌, ◌^◌, ◌≤◌, drop, length, nat_lt}
use Rattle.std.specs.Prelude.{min}
use Rattle.netlink_tree.specs.Tree.{views, levels}
use Rattle.netlink_tree.specs.Writing.{are_too_long, tree_bytes}
use Rattle.netlink_tree.proofs.write.whole_size.Given as goal

-- no tree so far is too deep or too long, and `size` is the size of their encoding, up to the largest `usize`
abbrev pub invariant-loop-tree : goal.invariant-loop-tree
invariant-loop-tree l =
    (nat_lt l.limit (levels (views l.trees)) ≡ nat_lt l.limit (levels (views (drop l.tree-index l.trees))))
    × (are_too_long (views l.trees) ≡ are_too_long (views (drop l.tree-index l.trees)))
    × (min (l.size + length (tree_bytes (views (drop l.tree-index l.trees)))) (2 ^ 64 - 1)
    ≡ min (length (tree_bytes (views l.trees))) (2 ^ 64 - 1))
    × (l.size ≤ 2 ^ 64 - 1)
