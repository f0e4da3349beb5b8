use Rattle.std.proofs.Common.{◌<◌, length}
use Rattle.std.specs.Io.KnownBytes.{prepend_known}
use Rattle.netlink_lines.specs.Check.{check_of}
use Rattle.netlink_lines.specs.Messages.{memory_of}
use Rattle.netlink_lines.proofs.BlockRuns.{ReachesKnown, known_blocks}
use Rattle.netlink_lines.proofs.Running.{Kept}
use Rattle.netlink_lines.proofs.blocks.blocks.Given as goal

-- the blocks so far are shown, and their lines are written; the vector has what was read of the next one
abbrev pub invariant-loop : goal.invariant-loop
invariant-loop g l =
    (length l.block.items < 8)
    × ReachesKnown (prepend_known l.fn.first.items (g.R.Read.remaining l.initial.reader))
    (prepend_known l.block.items (g.R.Read.remaining l.reader)) l.section
    × Kept (known_blocks (check_of g.F.Table) (prepend_known l.fn.first.items (g.R.Read.remaining l.initial.reader)))
    (memory_of l.initial.state) 0 (prepend_known l.fn.first.items (g.R.Read.remaining l.initial.reader))
    (prepend_known l.block.items (g.R.Read.remaining l.reader)) (g.W.Write.contents l.initial.writer)
    (g.W.Write.contents l.writer) 0 l.at (memory_of l.state) l.is_malformed
