use Rattle.std.proofs.Common.{List, ℕ, arith, ap, ◌∙◌}
use Rattle.netlink_shapes.specs.Shapes.{are_shaped, nest_levels, rows_in, within}
use Rattle.netlink_blocks.proofs.BlockAttributes.{block_attributes}
use Rattle.netlink_blocks.proofs.getters.are_shaped.Goals as goal

pub returns : goal.returns
returns c =
    let view = c.args.view.now in
    block_attributes (within (rows_in view.rows.list.now) view.block.now) view.policy c.args.block.now
    (λ i. omega (arith, c.type_inv.block i))
    (ap (λ (b : List ℕ). are_shaped nest_levels (within (rows_in view.rows.list.now) view.block.now) view.policy b) c.requires
    ∙ view.shaped)
