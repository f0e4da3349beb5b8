use Rattle.netlink_tree.proofs.TreeEqual.{same_tree}
use Rattle.netlink_tree.proofs.laws.trees_equal.Goals as goal

pub returns : goal.returns
returns c = record { equal = same_tree }
