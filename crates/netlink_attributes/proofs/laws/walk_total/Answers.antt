use Rattle.netlink_attributes.specs.WalkLaws.{has_walk}
use Rattle.netlink_attributes.proofs.laws.walk_total.Goals as goal

pub returns : goal.returns
returns c = record { exists = has_walk }
