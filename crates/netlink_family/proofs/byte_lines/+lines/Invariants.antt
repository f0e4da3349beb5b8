use Rattle.std.proofs.Common.{◌≡◌, ◌≤◌, ◌+◌, ◌*◌, ◌++◌, length, string_bytes}
use Rattle.netlink_packet_core.specs.Numbers.{IsBytes}
use Rattle.netlink_shapes.specs.Choices.{AreChoices}
use Rattle.netlink_shapes.specs.Shapes.{rows_in, within}
use Rattle.netlink_family.specs.ByteLines.{block_lines_at, block_rest}
use Rattle.netlink_family.proofs.byte_lines.+lines.Given as goal

abbrev pub decreases-push_attribute : goal.decreases-push_attribute
decreases-push_attribute l = 2 * l.levels

abbrev pub decreases-push_block : goal.decreases-push_block
decreases-push_block l = 2 * l.levels + 1

-- the text still to be appended is that of the rest of the block
abbrev pub invariant-push_block-loop-nla : goal.invariant-push_block-loop-nla
invariant-push_block-loop-nla l =
    (string_bytes l.fn.text ++ block_lines_at l.fault l.levels (rows_in l.rows.list.now) l.policy l.depth l.end l.block
    ≡ string_bytes l.text ++ block_rest l.fault l.levels (within (rows_in l.rows.list.now) l.block) l.policy l.depth l.end l.rest)
    × AreChoices (within (rows_in l.rows.list.now) l.block) l.policy l.choices
    × (length l.rest ≤ length l.block) × IsBytes l.rest

abbrev pub decreases-push_block-loop-nla : goal.decreases-push_block-loop-nla
decreases-push_block-loop-nla l = length l.rest
