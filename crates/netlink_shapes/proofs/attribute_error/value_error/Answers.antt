use Rattle.std.proofs.Common.{sym, ◌∙◌}
use Rattle.std.specs.Prelude.{is_none}
use Rattle.std.proofs.lemmas.Bool.{and_parts}
use Rattle.netlink_shapes.specs.ErrorLaws.{value_flat}
use Rattle.netlink_shapes.specs.Shapes.{has_shape, nest_of, rows_in, within}
use Rattle.netlink_shapes.proofs.FirstErrors.{is_nothing}
use Rattle.netlink_shapes.proofs.attribute_error.value_error.Goals as goal

pub returns : goal.returns
returns c =
    let fine = and_parts (is_none (nest_of c.shape_among-shape.result)) (has_shape c.shape_among-shape.result c.args.value.now)
    (sym c.is_fine.ensures ∙ c.if-not-is_fine.false) in
    sym (value_flat c.args.levels (within (rows_in c.args.rows.list.now) c.args.around.now) c.args.policy c.args.at c.args.kind c.args.value.now
    c.shape_among-shape.result c.shape_among-shape.ensures (is_nothing (nest_of c.shape_among-shape.result) fine.0) fine.1)
