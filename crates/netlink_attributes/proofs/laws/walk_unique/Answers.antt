use Rattle.netlink_attributes.specs.WalkLaws.{walk_once}
use Rattle.netlink_attributes.proofs.laws.walk_unique.Goals as goal

pub returns : goal.returns
returns c = record { unique = walk_once }
