use Rattle.netlink_tree.proofs.TreeTotal.{trees_some}
use Rattle.netlink_tree.proofs.laws.trees_total.Goals as goal

pub returns : goal.returns
returns c = record { exists = trees_some c.walk_total.ensures.exists }
