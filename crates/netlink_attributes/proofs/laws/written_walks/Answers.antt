use Rattle.netlink_attributes.specs.BlockLaws as blocks
use Rattle.netlink_attributes.proofs.laws.written_walks.Goals as goal

pub returns-clause-walk : goal.returns-clause-walk
returns-clause-walk c = blocks.written_walks

pub returns-clause-canonical : goal.returns-clause-canonical
returns-clause-canonical c = λ all each. (all, blocks.written_block all each)
