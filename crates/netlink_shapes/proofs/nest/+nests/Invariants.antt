use Rattle.std.proofs.Common.{◌+◌, ◌*◌, ◌≡◌}
use Rattle.netlink_attributes.specs.Steps.{unread}
use Rattle.netlink_shapes.specs.Choices.{AreChoices}
use Rattle.netlink_shapes.specs.Shapes.{CachesOther, are_shaped, rows_in, within}
use Rattle.netlink_shapes.proofs.nest.+nests.Given as goal

abbrev pub decreases-is_shaped : goal.decreases-is_shaped
decreases-is_shaped l = 2 * l.levels

abbrev pub decreases-is_block_shaped : goal.decreases-is_block_shaped
decreases-is_block_shaped l = 2 * l.levels + 1

abbrev pub invariant-is_block_shaped-loop-item : goal.invariant-is_block_shaped-loop-item
invariant-is_block_shaped-loop-item l =
    (are_shaped l.levels (within (rows_in l.rows.list.now) l.block) l.policy l.block
    ≡ are_shaped l.levels (within (rows_in l.rows.list.now) l.block) l.policy (unread l.item-iterator))
    × CachesOther (rows_in l.own.list.now) l.policy l.other
    × AreChoices (within (rows_in l.rows.list.now) l.block) l.policy l.choices
