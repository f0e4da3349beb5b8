use Rattle.netlink_tree.proofs.TreeOnce.{trees_once}
use Rattle.netlink_tree.proofs.laws.trees_unique.Goals as goal

pub returns : goal.returns
returns c = record { unique = trees_once c.walk_unique.ensures.unique }
