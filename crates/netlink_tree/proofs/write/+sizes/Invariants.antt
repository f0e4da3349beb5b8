use Rattle.std.proofs.Common.{◌≡◌, ◌≤◌, ◌+◌, drop, length, nat_lt}
use Rattle.netlink_packet_core.specs.Attribute.{value_max}
use Rattle.netlink_tree.specs.Tree.{views, levels}
use Rattle.netlink_tree.specs.Writing.{are_too_long, tree_bytes}
use Rattle.netlink_tree.proofs.write.+sizes.Given as goal

-- no tree so far is too deep or too long, and `size` is the size of their encoding
abbrev pub invariant-text_size-loop-tree : goal.invariant-text_size-loop-tree
invariant-text_size-loop-tree l =
    (nat_lt l.limit (levels (views l.trees)) ≡ nat_lt l.limit (levels (views (drop l.tree-index l.trees))))
    × (are_too_long (views l.trees) ≡ are_too_long (views (drop l.tree-index l.trees)))
    × (l.size ≤ value_max)
    × (l.size + length (tree_bytes (views (drop l.tree-index l.trees))) ≡ length (tree_bytes (views l.trees)))
