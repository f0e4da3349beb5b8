use Rattle.std.proofs.Common.{ap, ◌∙◌}
use Rattle.netlink_shapes.specs.Shapes.{is_shaped, nest_levels, rows_in}
use Rattle.netlink_shapes.specs.declared.shape.Shape.{Shape}
use Rattle.netlink_shapes.proofs.block.fits_nest.Goals as goal

pub returns : goal.returns
returns c =
    c.is_shaped.ensures
    ∙ ap (λ (s : Shape). is_shaped nest_levels (rows_in c.args.rows.list.now) s c.args.value.now) c.requires.shape
