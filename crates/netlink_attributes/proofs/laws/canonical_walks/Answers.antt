use Rattle.netlink_attributes.specs.BlockLaws.{canonical_walk, canonical_walked}
use Rattle.netlink_attributes.proofs.laws.canonical_walks.Goals as goal

pub returns-clause-exists : goal.returns-clause-exists
returns-clause-exists c = canonical_walk c.args.bytes.now

pub returns-clause-every : goal.returns-clause-every
returns-clause-every c = λ all fault canonical walk. canonical_walked c.args.bytes.now all fault canonical walk
