use Rattle.std.proofs.Common.{◌<◌, length}
use Rattle.std.specs.Io.KnownBytes.{prepend_known}
use Rattle.netlink_lines.specs.Check.{check_of}
use Rattle.netlink_lines.specs.Messages.{memory_of}
use Rattle.netlink_lines.specs.Stream.{messages_of}
use Rattle.netlink_lines.proofs.Running.{Kept}
use Rattle.netlink_lines.proofs.runs.all_messages.Given as goal

-- the messages so far are shown, and their lines are written; the frame has what was read of the next one
abbrev pub invariant-loop : goal.invariant-loop
invariant-loop g l =
    (length l.frame.items < 16)
    × Kept (messages_of (check_of g.F.Table))
    (memory_of l.initial.state) l.base (prepend_known l.fn.first.items (g.R.Read.remaining l.initial.reader))
    (prepend_known l.frame.items (g.R.Read.remaining l.reader)) (g.W.Write.contents l.initial.writer)
    (g.W.Write.contents l.writer) 0 l.at (memory_of l.state) l.is_malformed
