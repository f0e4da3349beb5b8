use Rattle.std.proofs.Common.{◌+◌, ◌*◌}
use Rattle.netlink_attributes.specs.Steps.{unread}
use Rattle.netlink_shapes.specs.Choices.{AreChoices}
use Rattle.netlink_shapes.specs.Shapes.{rows_in, within}
use Rattle.netlink_shapes.proofs.FirstErrors.{AreFine}
use Rattle.netlink_shapes.proofs.attribute_error.+errors.Given as goal

abbrev pub decreases-rest_error : goal.decreases-rest_error
decreases-rest_error l = 3 * l.levels

abbrev pub decreases-shape_error : goal.decreases-shape_error
decreases-shape_error l = 3 * l.levels + 1

abbrev pub decreases-error_in : goal.decreases-error_in
decreases-error_in l = 3 * l.levels + 2

abbrev pub invariant-error_in-loop-item : goal.invariant-error_in-loop-item
invariant-error_in-loop-item l =
    AreFine l.levels (within (rows_in l.rows.list.now) l.block) l.policy l.end l.block l.left (unread l.item-iterator)
    × AreChoices (within (rows_in l.rows.list.now) l.block) l.policy l.choices
