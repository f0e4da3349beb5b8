use Rattle.std.proofs.Common.{ap, sym, ◌∙◌}
use Rattle.netlink_shapes.specs.NestLaws.{nest_shaped}
use Rattle.netlink_shapes.specs.Shapes.{is_block_shaped, nest_levels, rows_in, within}
use Rattle.netlink_blocks.proofs.block_view.BlockView.nest.Goals as goal

pub invariant_of-result : goal.invariant_of-result
invariant_of-result c =
    let view = c.args.self.now in
    record {
      shaped =
          ap (is_block_shaped nest_levels (rows_in view.rows.list.now) c.in-Some.policy) c.nest_block.ensures
          ∙ nest_shaped (within (rows_in view.rows.list.now) view.block.now) view.policy c.args.kind c.in_ok-first-in-Some.field-0.now
          c.shape-shape.result c.in-Some.policy c.shape-shape.ensures (sym c.policy_of.ensures ∙ c.in-Some.is) c.in_ok-first-in-Some.ensures.shaped;
    }
