use Rattle.std.proofs.Common.{ap, ◌∙◌}
use Rattle.netlink_shapes.specs.PolicyRows.{part_shape}
use Rattle.netlink_shapes.specs.Shapes.{resolved, rows_in, within}
use Rattle.netlink_shapes.proofs.choice.cached_own_shape.Goals as goal

pub returns-clause-shape : goal.returns-clause-shape
returns-clause-shape c =
    c.kept.ensures.shape
    ∙ ap (resolved (within (rows_in c.args.rows.list.now) c.args.block.now) c.args.policy)
    (c.cached_shape.ensures.shape ∙ part_shape c.args.policy c.args.kind (rows_in c.args.rows.list.now) (rows_in c.args.own.list.now) c.requires.own)
