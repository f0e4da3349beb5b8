use Rattle.std.proofs.Common.{◌≡◌, drop, nat_lt}
use Rattle.netlink_tree.specs.Tree.{views, levels}
use Rattle.netlink_tree.proofs.write.+is_too_deep.Given as goal

-- the trees are too deep if and only if those left are
abbrev pub invariant-loop-tree : goal.invariant-loop-tree
invariant-loop-tree l = nat_lt l.limit (levels (views l.trees)) ≡ nat_lt l.limit (levels (views (drop l.tree-index l.trees)))
