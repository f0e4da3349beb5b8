use Rattle.std.proofs.Common.{sym, ◌∙◌}
use Rattle.netlink_shapes.specs.Shapes.{rows_in, within}
use Rattle.netlink_shapes.specs.Checking.{has_error}
use Rattle.netlink_shapes.proofs.block.block_error.Goals as goal

pub unreachable-requires : goal.unreachable-requires
unreachable-requires c =
    has_error (within (rows_in c.args.rows.list.now) c.args.block.now) c.args.end c.args.block.now c.requires.some (sym c.error_in.ensures ∙ c.in-None.is)
