use Rattle.std.proofs.Common.{Some, None}
use Rattle.std.proofs.lemmas.Option.{IfSome_then}
use Rattle.netlink_blocks.specs.FindingLaws.{first_of_block, first_shaped, none_then}
use Rattle.netlink_shapes.specs.Shapes.{rows_in, within}
use Rattle.netlink_blocks.proofs.block_index.BlockIndex.first.Goals as goal

pub returns-clause-some : goal.returns-clause-some
returns-clause-some c =
    let view = c.args.self.now.view in
    IfSome_then c.first_placed.result c.first_placed.ensures.some
    (λ v. first_of_block (within (rows_in view.rows.list.now) view.block.now) view.policy view.block.now c.args.kind (Some v.now) c.are_shaped.ensures)

pub returns-clause-none : goal.returns-clause-none
returns-clause-none c =
    let view = c.args.self.now.view in
    none_then c.first_placed.result c.first_placed.ensures.none
    (first_of_block (within (rows_in view.rows.list.now) view.block.now) view.policy view.block.now c.args.kind None c.are_shaped.ensures)

pub returns-clause-shaped : goal.returns-clause-shaped
returns-clause-shaped c =
    let view = c.args.self.now.view in
    IfSome_then c.first_placed.result (returns-clause-some c)
    (λ v. first_shaped (within (rows_in view.rows.list.now) view.block.now) view.policy view.block.now c.args.kind v.now c.are_shaped.ensures)
