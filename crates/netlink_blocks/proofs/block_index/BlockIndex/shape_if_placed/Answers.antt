use Rattle.std.proofs.Common.{None}
use Rattle.netlink_blocks.specs.FindingLaws.{first_of_block}
use Rattle.netlink_shapes.specs.Shapes.{rows_in, within}
use Rattle.netlink_blocks.proofs.block_index.BlockIndex.shape_if_placed.Goals as goal

pub returns-then-is_missing-clause-none : goal.returns-then-is_missing-clause-none
returns-then-is_missing-clause-none c =
    let view = c.args.self.now.view in
    first_of_block (within (rows_in view.rows.list.now) view.block.now) view.policy view.block.now c.args.kind None
    c.are_shaped.ensures (c.is_missing.ensures c.if-is_missing.true)
