use Rattle.netlink_attributes.specs.BlockLaws.{block_walks, block_joined, walk_joined}
use Rattle.netlink_attributes.proofs.laws.walk_join.Goals as goal

pub returns-clause-joined : goal.returns-clause-joined
returns-clause-joined c = λ more fault canonical later.
    (canonical.0, block_walks _ canonical.0 canonical.1, block_joined _ canonical.0 more _ fault canonical.1 later)

pub returns-clause-after : goal.returns-clause-after
returns-clause-after c = λ all more end fault canonical walk later. walk_joined _ canonical.0 all more _ end fault canonical.1 walk later
