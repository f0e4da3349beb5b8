use Rattle.std.proofs.Common.{◌↔◌, drop}
use Rattle.netlink_tree.specs.Tree.{views, AreWellFormed}
use Rattle.netlink_tree.proofs.tree.+is_well_formed.Given as goal

-- the trees are well formed if and only if those left are
abbrev pub invariant-loop-tree : goal.invariant-loop-tree
invariant-loop-tree l = AreWellFormed (views l.trees) ↔ AreWellFormed (views (drop l.tree-index l.trees))
