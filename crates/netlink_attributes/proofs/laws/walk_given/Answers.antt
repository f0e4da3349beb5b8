use Rattle.netlink_attributes.proofs.WalkLemmas.{gives_walk}
use Rattle.netlink_attributes.proofs.laws.walk_given.Goals as goal

pub returns : goal.returns
returns c = record { given = gives_walk }
