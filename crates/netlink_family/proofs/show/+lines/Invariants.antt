use Rattle.std.proofs.Common.{◌≡◌, ◌+◌, ◌*◌, ◌++◌, string_bytes}
use Rattle.netlink_packet_core.specs.Steps.{unread}
use Rattle.netlink_shapes.specs.Choices.{AreChoices}
use Rattle.netlink_shapes.specs.Shapes.{rows_in, within}
use Rattle.netlink_blocks.specs.Show.{lines_in, value_lines}
use Rattle.netlink_family.proofs.show.+lines.Given as goal

abbrev pub decreases-push_attribute : goal.decreases-push_attribute
decreases-push_attribute l = 2 * l.levels

abbrev pub decreases-push_block : goal.decreases-push_block
decreases-push_block l = 2 * l.levels + 1

-- the text still to be appended is that of the unread attributes
abbrev pub invariant-push_block-loop-item : goal.invariant-push_block-loop-item
invariant-push_block-loop-item l =
    (string_bytes l.fn.text ++ lines_in (value_lines l.levels (within (rows_in l.rows.list.now) l.block) l.policy l.depth) l.block
    ≡ string_bytes l.text ++ lines_in (value_lines l.levels (within (rows_in l.rows.list.now) l.block) l.policy l.depth) (unread l.item-iterator))
    × AreChoices (within (rows_in l.rows.list.now) l.block) l.policy l.choices
