use Rattle.netlink_tree.proofs.TreeTrips.{write_back}
use Rattle.netlink_tree.proofs.laws.trees_write_back.Goals as goal

pub returns : goal.returns
returns c = record { unchanged = write_back c.walk_unique.ensures.unique c.written_walks.ensures.walk }
