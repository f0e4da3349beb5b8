use Rattle.netlink_lines.specs.Check.{check_of}
use Rattle.netlink_lines.specs.Messages.{memory_of}
use Rattle.netlink_lines.specs.Packet.{packets_of}
use Rattle.netlink_lines.proofs.Running.{Kept}
use Rattle.netlink_lines.proofs.capture.packets.Given as goal

-- the packets so far are shown, and their lines are written
abbrev pub invariant-loop : goal.invariant-loop
invariant-loop g l =
    Kept (packets_of (check_of g.F.Table) l.order l.is_nano)
    (memory_of l.initial.state) 24 (g.R.Read.remaining l.initial.reader) (g.R.Read.remaining l.reader)
    (g.W.Write.contents l.initial.writer) (g.W.Write.contents l.writer) 0 l.at (memory_of l.state) l.is_malformed
