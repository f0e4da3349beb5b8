use Rattle.std.proofs.Common.{ap, sym, ◌∙◌}
use Rattle.netlink_shapes.specs.NestLaws.{nest_shaped}
use Rattle.netlink_shapes.specs.Shapes.{is_block_shaped, nest_levels, rows_in, within}
use Rattle.netlink_blocks.proofs.block_index.BlockIndex.nest.Goals as goal

pub invariant_of-result : goal.invariant_of-result
invariant_of-result c =
    let view = c.args.self.now.view in
    record {
      shaped =
          ap (is_block_shaped nest_levels (rows_in view.rows.list.now) c.in-Some.policy) c.nest_block.ensures
          ∙ nest_shaped (within (rows_in view.rows.list.now) view.block.now) view.policy c.args.kind c.in_ok-first-in-Some.field-0.now
          c.in_ok-shape.shape c.in-Some.policy c.in_ok-shape.ensures.some (sym c.policy_of.ensures ∙ c.in-Some.is) c.in_ok-first-in-Some.ensures.shaped;
    }
