use Rattle.netlink_attributes.proofs.WalkLemmas.{nothing_given}
use Rattle.netlink_attributes.proofs.laws.walk_stops.Goals as goal

pub returns : goal.returns
returns c = record { stops = nothing_given }
