use Rattle.netlink_attributes.proofs.ReplaceLemmas.{value_replaced, written_replaced}
use Rattle.netlink_attributes.proofs.laws.value_replaced.Goals as goal

pub returns-clause-walk : goal.returns-clause-walk
returns-clause-walk c = value_replaced c.args.block.now c.args.index c.args.value.now c.requires.size

pub returns-clause-written : goal.returns-clause-written
returns-clause-written c = written_replaced c.args.block.now c.args.index c.args.value.now c.requires.size
