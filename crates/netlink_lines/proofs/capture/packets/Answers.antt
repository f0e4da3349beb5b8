use Rattle.std.proofs.Common.{rules, ◌≡◌, ◌∙◌, refl, ap, [], arith, length}
use Rattle.std.proofs.KnownBytes.{Consumes-nil}
use Rattle.std.proofs.lemmas.Result.{err_from_is_err_and}
use Rattle.std.specs.Io.KnownBytes.{Appends}
use Rattle.std.specs.Prelude.{◌||◌}
use Rattle.netlink_lines.specs.Check.{check_of}
use Rattle.netlink_input.specs.Packet.{torn_of}
use Rattle.netlink_input.specs.Time.{pcap_time}
use Rattle.netlink_lines.specs.Messages.{Check, memory_of, stamped}
use Rattle.netlink_lines.specs.Packet.{packets_of}
use Rattle.netlink_lines.proofs.Running.{at_the_end, at_torn_stop, failed_read, keeps_one, left_here, no_one, no_write, packet_shown, torn_fails, without_memory}
use Rattle.netlink_lines.proofs.capture.packets.Goals as goal
use Rattle.netlink_lines.proofs.capture.packets.Goals.{then-is_malformed, else-is_malformed}

pub returns-then-at-gt-LAST : goal.returns-then-at-gt-LAST
returns-then-at-gt-LAST g c =
    let check : Check = check_of g.F.Table in
    record {
      runs =
          failed_read (packets_of check c.args.order c.args.is_nano) _ _ _ _ _ _ _ _ _ _ c.loop.invariant
          ([], Consumes-nil _, λ holds. omega (arith, holds.0));
    }

pub returns-in_err-read_packet : goal.returns-in_err-read_packet
returns-in_err-read_packet g c =
    let check : Check = check_of g.F.Table in
    let p = err_from_is_err_and c.from_residual.result c.from_residual.ensures.1 in
    record {
      runs = rw (p.1, p.2) (no_one (packets_of check c.args.order c.args.is_nano) _ _ _ _ _ _ _ _ _ _ _ c.loop.invariant c.in_err-read_packet.ensures.fault);
    }

pub returns-in-End : goal.returns-in-End
returns-in-End g c =
    let check : Check = check_of g.F.Table in
    record {
      runs =
          rw c.end_of.ensures.is (at_the_end (packets_of check c.args.order c.args.is_nano) _ _ _ _ _ _ _ _ _ _ c.loop.invariant
          (rw c.in-End.is at c.in_ok-read_packet.ensures.next));
    }

pub returns-in-Stop : goal.returns-in-Stop
returns-in-Stop g c =
    let check : Check = check_of g.F.Table in
    let kept = c.read_packet.new.packet.items in
    let left = left_here c.args.order c.in-Stop.why kept _ (rw c.in-Stop.is at c.in_ok-read_packet.ensures.next)
    (rw c.in-Stop.is at c.in_ok-read_packet.ensures.torn) in
    let timed : memory_of c.stamp.new.self ≡ stamped (memory_of c.loop.state) (pcap_time c.args.order c.args.is_nano (torn_of c.in-Stop.why kept)) =
    c.stamp.ensures ∙ ap (stamped (memory_of c.loop.state))
    (c.pcap_time.ensures ∙ ap (pcap_time c.args.order c.args.is_nano) (c.torn_of.ensures ∙ ap (torn_of c.in-Stop.why) c.deref.ensures.value)) in
    let (lines, tells, wrote) = rw c.deref-in-Stop.ensures.value at c.in_ok-write_stopped-in-Stop.ensures.writes in
    record {
      runs =
          at_torn_stop check c.args.order c.args.is_nano _ _ _ _ (g.R.Read.remaining c.read_packet.new.reader) _ _ _ _ _ _ c.in-Stop.why kept
          (memory_of c.stamp.new.self) lines _ c.loop.invariant left timed tells wrote;
    }

pub returns-in_err-write_stopped-in-Stop : goal.returns-in_err-write_stopped-in-Stop
returns-in_err-write_stopped-in-Stop g c =
    let check : Check = check_of g.F.Table in
    let kept = c.read_packet.new.packet.items in
    let left = left_here c.args.order c.in-Stop.why kept _ (rw c.in-Stop.is at c.in_ok-read_packet.ensures.next)
    (rw c.in-Stop.is at c.in_ok-read_packet.ensures.torn) in
    let timed : memory_of c.stamp.new.self ≡ stamped (memory_of c.loop.state) (pcap_time c.args.order c.args.is_nano (torn_of c.in-Stop.why kept)) =
    c.stamp.ensures ∙ ap (stamped (memory_of c.loop.state))
    (c.pcap_time.ensures ∙ ap (pcap_time c.args.order c.args.is_nano) (c.torn_of.ensures ∙ ap (torn_of c.in-Stop.why) c.deref.ensures.value)) in
    let p = err_from_is_err_and c.from_residual-in_err-write_stopped-in-Stop.result c.from_residual-in_err-write_stopped-in-Stop.ensures.1 in
    record {
      runs =
          rw (p.1, p.2) (torn_fails check c.args.order c.args.is_nano _ _ _ _ (g.R.Read.remaining c.read_packet.new.reader) _ _ _ _ _ _ c.in-Stop.why kept
          c.deref-in-Stop.result.now (memory_of c.stamp.new.self) (memory_of c.write_stopped.new.state) _ c.loop.invariant left c.deref-in-Stop.ensures.value timed
          c.in_err-write_stopped-in-Stop.ensures.writes);
    }

pub returns-in_err-is_bad : goal.returns-in_err-is_bad
returns-in_err-is_bad g c =
    let check : Check = check_of g.F.Table in
    let p = err_from_is_err_and c.from_residual-in_err-is_bad.result c.from_residual-in_err-is_bad.ensures.1 in
    record {
      runs =
          rw (p.1, p.2, c.in_err-is_bad.ensures.fault) (without_memory (packets_of check c.args.order c.args.is_nano) _ _ _ _
          (g.R.Read.remaining c.read_packet.new.reader) _ _ _ _ _ (memory_of c.packet_lines.new.state) c.loop.invariant);
    }

pub returns-in_err-write_through : goal.returns-in_err-write_through
returns-in_err-write_through g c =
    let check : Check = check_of g.F.Table in
    let timed : memory_of c.stamp-in-loop.new.self
    ≡ stamped (memory_of c.loop.state) (pcap_time c.args.order c.args.is_nano c.read_packet.new.packet.items) =
    c.stamp-in-loop.ensures ∙ ap (stamped (memory_of c.loop.state))
    (c.pcap_time-in-loop.ensures ∙ ap (pcap_time c.args.order c.args.is_nano) c.deref-in-loop.ensures.value) in
    let shown =
    packet_shown check c.args.order c.args.is_nano (g.R.Read.remaining c.loop.reader) (g.R.Read.remaining c.read_packet.new.reader) c.loop.at
    c.read_packet.new.packet.items c.deref-in-loop-2.result.now c.in_ok-read_packet.field-0 (memory_of c.loop.state) (memory_of c.stamp-in-loop.new.self)
    (c.packet_lines.new.lines.items, c.in_ok-is_bad.is_bad) (memory_of c.packet_lines.new.state) c.in_ok-read_packet.ensures.next
    c.in-Packet.is c.deref-in-loop-2.ensures.value timed c.in_ok-is_bad.ensures.tells in
    let p = err_from_is_err_and c.from_residual-in_err-write_through.result c.from_residual-in_err-write_through.ensures.1 in
    record {
      runs =
          rw (p.1, p.2) (no_write (packets_of check c.args.order c.args.is_nano) _ _ _ _ _ (g.R.Read.remaining c.read_packet.new.reader) _ _
          (g.W.Write.contents c.write_through.new.writer) _ _ _ _ _ _ _ c.loop.invariant shown
          (rw c.deref-in-loop-3.ensures.value at c.in_err-write_through.ensures.part));
    }

pub loop-preserved : goal.loop-preserved
loop-preserved g c =
    let check : Check = check_of g.F.Table in
    let timed : memory_of c.stamp-in-loop.new.self
    ≡ stamped (memory_of c.loop.state) (pcap_time c.args.order c.args.is_nano c.read_packet.new.packet.items) =
    c.stamp-in-loop.ensures ∙ ap (stamped (memory_of c.loop.state))
    (c.pcap_time-in-loop.ensures ∙ ap (pcap_time c.args.order c.args.is_nano) c.deref-in-loop.ensures.value) in
    let shown =
    packet_shown check c.args.order c.args.is_nano (g.R.Read.remaining c.loop.reader) (g.R.Read.remaining c.read_packet.new.reader) c.loop.at
    c.read_packet.new.packet.items c.deref-in-loop-2.result.now c.in_ok-read_packet.field-0 (memory_of c.loop.state) (memory_of c.stamp-in-loop.new.self)
    (c.packet_lines.new.lines.items, c.in_ok-is_bad.is_bad) (memory_of c.packet_lines.new.state) c.in_ok-read_packet.ensures.next
    c.in-Packet.is c.deref-in-loop-2.ensures.value timed c.in_ok-is_bad.ensures.tells in
    let size : c.len.result ≡ length c.read_packet.new.packet.items = search rules in
    let after : c.if-is_malformed.is_malformed ≡ (c.loop.is_malformed || c.in_ok-is_bad.is_bad) =
    elim c.if-is_malformed.branch [
      | then-is_malformed w ↦ rw (w.is_malformed-is, w.if-is_malformed.true) refl
      | else-is_malformed w ↦ rw (w.is_malformed-is, w.if-is_malformed.false) refl
    ] in
    let wrote : Appends (g.W.Write.contents c.loop.writer) (g.W.Write.contents c.write_through.new.writer) c.packet_lines.new.lines.items =
    rw c.deref-in-loop-3.ensures.value at c.in_ok-write_through.ensures.whole in
    let kept =
    keeps_one (packets_of check c.args.order c.args.is_nano) (memory_of c.args.state.now) 24 (g.R.Read.remaining c.args.reader.now)
    (g.R.Read.remaining c.loop.reader) (g.R.Read.remaining c.read_packet.new.reader) (g.W.Write.contents c.args.writer.now)
    (g.W.Write.contents c.loop.writer) (g.W.Write.contents c.write_through.new.writer) 0 c.loop.at (memory_of c.loop.state)
    c.loop.is_malformed c.read_packet.new.packet.items (c.packet_lines.new.lines.items, c.in_ok-is_bad.is_bad)
    (memory_of c.packet_lines.new.state) c.loop.invariant shown wrote in
    rw (size, after) kept

pub returns : goal.returns
returns g c =
    let check : Check = check_of g.F.Table in
    record {
      runs =
          failed_read (packets_of check c.args.order c.args.is_nano) _ _ _ _ (g.R.Read.remaining c.loop.reader) _ _ _ _ _ c.loop.invariant
          ([], Consumes-nil _, λ holds. omega (arith, holds.0));
    }
