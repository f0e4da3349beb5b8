use Rattle.netlink_tree.proofs.TreeReading.{trees_formed}
use Rattle.netlink_tree.proofs.read.read_tree.Goals as goal

pub returns-then-read_block-clause-formed : goal.returns-then-read_block-clause-formed
returns-then-read_block-clause-formed c = trees_formed _ c.args.bytes.now _ (c.read_block.ensures.trees c.if-read_block.true)
