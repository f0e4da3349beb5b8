use Rattle.std.proofs.Common.{◌≡◌, ◌++◌, drop, false}
use Rattle.netlink_tree.specs.Tree.{views, TreesInRange}
use Rattle.netlink_tree.specs.Writing.{are_too_long, tree_bytes}
use Rattle.netlink_tree.proofs.write.+writing.Given as goal

-- the trees so far are in range, and their encoding has been appended
abbrev pub invariant-append_trees-loop-tree : goal.invariant-append_trees-loop-tree
invariant-append_trees-loop-tree l =
    (are_too_long (views (drop l.tree-index l.trees)) ≡ false)
    × (TreesInRange (views (drop l.tree-index l.trees)) → TreesInRange (views l.trees))
    × (l.block.items ++ tree_bytes (views (drop l.tree-index l.trees)) ≡ l.fn.block.items ++ tree_bytes (views l.trees))
