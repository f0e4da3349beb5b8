use Rattle.netlink_tree.proofs.TreeTrips.{read_back}
use Rattle.netlink_tree.proofs.laws.trees_read_back.Goals as goal

pub returns : goal.returns
returns c = record { back = read_back c.written_walks.ensures.walk }
