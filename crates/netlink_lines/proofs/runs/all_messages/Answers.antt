use Rattle.std.proofs.Common.{rules, ◌≡◌, ◌+◌, refl, [], arith, length, string_bytes}
use Rattle.std.proofs.KnownBytes.{Consumes-nil, prepend_known-nil}
use Rattle.std.proofs.lemmas.Result.{err_from_is_err_and}
use Rattle.std.specs.Io.KnownBytes.{prepend_known}
use Rattle.std.specs.Prelude.{◌||◌}
use Rattle.netlink_lines.specs.Check.{check_of}
use Rattle.netlink_lines.specs.Messages.{Check, memory_of}
use Rattle.netlink_lines.specs.Stream.{messages_of}
use Rattle.netlink_input.specs.ReadingLaws.{no_header, takes_first}
use Rattle.netlink_lines.proofs.Running.{ends_at_stop, ends_whole, failed_read, frame_kept, frame_shown, no_one, no_padding, no_write, skips_gap, starts_kept, without_memory}
use Rattle.netlink_lines.proofs.Steps.{frame_stop}
use Rattle.netlink_lines.proofs.runs.all_messages.Goals as goal
use Rattle.netlink_lines.proofs.runs.all_messages.Goals.{then-is_malformed, else-is_malformed}

pub loop-init : goal.loop-init
loop-init g c =
    let check : Check = check_of g.F.Table in
    (c.requires.few, starts_kept (messages_of check) _ _ _ _)

pub read_frame-requires : goal.read_frame-requires
read_frame-requires g c = record { few = c.loop.invariant.0 }

pub returns-in_err-read_frame : goal.returns-in_err-read_frame
returns-in_err-read_frame g c =
    let check : Check = check_of g.F.Table in
    let p = err_from_is_err_and c.from_residual.result c.from_residual.ensures.1 in
    record { runs = rw (p.1, p.2) (no_one (messages_of check) _ _ _ _ _ _ _ _ _ _ _ c.loop.invariant.1 c.in_err-read_frame.ensures.fault) }

pub returns-in-End : goal.returns-in-End
returns-in-End g c =
    let check : Check = check_of g.F.Table in
    record {
      runs =
          ends_whole (messages_of check) _ _ _ _ (g.R.Read.remaining c.read_frame.new.reader) _ _ _ _ _ c.loop.invariant.1
          (rw c.in-End.is at c.in_ok-read_frame.ensures.next);
    }

pub returns-in-Stop : goal.returns-in-Stop
returns-in-Stop g c =
    let check : Check = check_of g.F.Table in
    record {
      runs =
          ends_at_stop (messages_of check) _ _ _ _ (g.R.Read.remaining c.read_frame.new.reader) _ _ _ _ _ _ c.loop.invariant.1
          (frame_stop check _ _ _ (rw c.in-Stop.is at c.in_ok-read_frame.ensures.next));
    }

pub returns-in_err-message : goal.returns-in_err-message
returns-in_err-message g c =
    let check : Check = check_of g.F.Table in
    let p = err_from_is_err_and c.from_residual-in_err-message.result c.from_residual-in_err-message.ensures.1 in
    record {
      runs =
          rw (p.1, p.2) (without_memory (messages_of check) _ _ _ _ (g.R.Read.remaining c.read_frame.new.reader) _ _ _ _ _
          (memory_of c.next_lines.new.state) c.loop.invariant.1);
    }

pub returns-in_err-write_through : goal.returns-in_err-write_through
returns-in_err-write_through g c =
    let check : Check = check_of g.F.Table in
    let message = c.in_ok-message.message in
    let p = err_from_is_err_and c.from_residual-in_err-write_through.result c.from_residual-in_err-write_through.ensures.1 in
    let shown =
    frame_shown check (prepend_known c.loop.frame.items (g.R.Read.remaining c.loop.reader))
    (g.R.Read.remaining c.read_frame.new.reader) c.loop.at c.read_frame.new.frame.items c.deref.result.now
    c.in_ok-read_frame.field-0 (memory_of c.loop.state) (string_bytes message.text, message.is_malformed)
    (memory_of c.next_lines.new.state) c.in_ok-read_frame.ensures.next c.in-Frame.is c.deref.ensures.value c.in_ok-message.ensures.tells in
    record {
      runs =
          rw (p.1, p.2) (no_write (messages_of check) _ _ _ _ _ (g.R.Read.remaining c.read_frame.new.reader) _ _
          (g.W.Write.contents c.write_through.new.writer) _ _ _ _ _ _ _ c.loop.invariant.1 shown
          (rw c.as_bytes.ensures.value at c.in_err-write_through.ensures.part));
    }

pub returns-in_err-padding : goal.returns-in_err-padding
returns-in_err-padding g c =
    let check : Check = check_of g.F.Table in
    let message = c.in_ok-message.message in
    let size : c.len.result ≡ length c.read_frame.new.frame.items = search rules in
    let after : c.if-is_malformed.is_malformed ≡ (c.loop.is_malformed || message.is_malformed) =
    elim c.if-is_malformed.branch [
      | then-is_malformed w ↦ rw (w.is_malformed-is, w.if-is_malformed.true) refl
      | else-is_malformed w ↦ rw (w.is_malformed-is, w.if-is_malformed.false) refl
    ] in
    let kept =
    frame_kept check (memory_of c.args.state.now) c.args.base (prepend_known c.args.first.items (g.R.Read.remaining c.args.reader.now))
    (prepend_known c.loop.frame.items (g.R.Read.remaining c.loop.reader)) (g.R.Read.remaining c.read_frame.new.reader)
    (g.W.Write.contents c.args.writer.now) (g.W.Write.contents c.loop.writer) (g.W.Write.contents c.write_through.new.writer)
    c.loop.at c.len.result (memory_of c.loop.state) c.loop.is_malformed c.if-is_malformed.is_malformed c.read_frame.new.frame.items
    c.deref.result.now c.as_bytes.result.now c.in_ok-read_frame.field-0 (string_bytes message.text, message.is_malformed)
    (memory_of c.next_lines.new.state) c.loop.invariant.1 c.in_ok-read_frame.ensures.next c.in-Frame.is c.deref.ensures.value
    c.in_ok-message.ensures.tells c.as_bytes.ensures.value c.in_ok-write_through.ensures.whole size after in
    let p = err_from_is_err_and c.from_residual-in_err-padding.result c.from_residual-in_err-padding.ensures.1 in
    record {
      runs =
          rw (p.1, p.2) (no_padding check _ _ _ _ (g.R.Read.remaining c.skip_padding.new.reader) _ _ _ _ _ _ _ kept
          c.in_err-padding.ensures.fault);
    }

pub returns-in-None : goal.returns-in-None
returns-in-None g c =
    let check : Check = check_of g.F.Table in
    let message = c.in_ok-message.message in
    let size : c.len.result ≡ length c.read_frame.new.frame.items = search rules in
    let after : c.if-is_malformed.is_malformed ≡ (c.loop.is_malformed || message.is_malformed) =
    elim c.if-is_malformed.branch [
      | then-is_malformed w ↦ rw (w.is_malformed-is, w.if-is_malformed.true) refl
      | else-is_malformed w ↦ rw (w.is_malformed-is, w.if-is_malformed.false) refl
    ] in
    let kept =
    frame_kept check (memory_of c.args.state.now) c.args.base (prepend_known c.args.first.items (g.R.Read.remaining c.args.reader.now))
    (prepend_known c.loop.frame.items (g.R.Read.remaining c.loop.reader)) (g.R.Read.remaining c.read_frame.new.reader)
    (g.W.Write.contents c.args.writer.now) (g.W.Write.contents c.loop.writer) (g.W.Write.contents c.write_through.new.writer)
    c.loop.at c.len.result (memory_of c.loop.state) c.loop.is_malformed c.if-is_malformed.is_malformed c.read_frame.new.frame.items
    c.deref.result.now c.as_bytes.result.now c.in_ok-read_frame.field-0 (string_bytes message.text, message.is_malformed)
    (memory_of c.next_lines.new.state) c.loop.invariant.1 c.in_ok-read_frame.ensures.next c.in-Frame.is c.deref.ensures.value
    c.in_ok-message.ensures.tells c.as_bytes.ensures.value c.in_ok-write_through.ensures.whole size after in
    let next =
    skips_gap (messages_of check) _ _ _ _ (g.R.Read.remaining c.skip_padding.new.reader) _ _ _ _ c.in_ok-padding.padding _ _
    kept c.in_ok-padding.ensures.skips in
    record { runs = failed_read (messages_of check) _ _ _ _ _ _ _ _ _ _ next ([], Consumes-nil _, no_header [] (omega arith)) }

pub loop-preserved : goal.loop-preserved
loop-preserved g c =
    let check : Check = check_of g.F.Table in
    let message = c.in_ok-message.message in
    let size : c.len.result ≡ length c.read_frame.new.frame.items = search rules in
    let after : c.if-is_malformed.is_malformed ≡ (c.loop.is_malformed || message.is_malformed) =
    elim c.if-is_malformed.branch [
      | then-is_malformed w ↦ rw (w.is_malformed-is, w.if-is_malformed.true) refl
      | else-is_malformed w ↦ rw (w.is_malformed-is, w.if-is_malformed.false) refl
    ] in
    let kept =
    frame_kept check (memory_of c.args.state.now) c.args.base (prepend_known c.args.first.items (g.R.Read.remaining c.args.reader.now))
    (prepend_known c.loop.frame.items (g.R.Read.remaining c.loop.reader)) (g.R.Read.remaining c.read_frame.new.reader)
    (g.W.Write.contents c.args.writer.now) (g.W.Write.contents c.loop.writer) (g.W.Write.contents c.write_through.new.writer)
    c.loop.at c.len.result (memory_of c.loop.state) c.loop.is_malformed c.if-is_malformed.is_malformed c.read_frame.new.frame.items
    c.deref.result.now c.as_bytes.result.now c.in_ok-read_frame.field-0 (string_bytes message.text, message.is_malformed)
    (memory_of c.next_lines.new.state) c.loop.invariant.1 c.in_ok-read_frame.ensures.next c.in-Frame.is c.deref.ensures.value
    c.in_ok-message.ensures.tells c.as_bytes.ensures.value c.in_ok-write_through.ensures.whole size after in
    let at : c.in-Some.next ≡ (c.loop.at + c.len.result) + c.in_ok-padding.padding = search rules in
    let none : c.clear.new.self.items ≡ [] = search rules in
    let next =
    skips_gap (messages_of check) _ _ _ _ (g.R.Read.remaining c.skip_padding.new.reader) _ _ _ _ c.in_ok-padding.padding _ _
    kept c.in_ok-padding.ensures.skips in
    (rw none (omega arith), rw (none, prepend_known-nil (g.R.Read.remaining c.skip_padding.new.reader), at) next)

pub returns : goal.returns
returns g c =
    let check : Check = check_of g.F.Table in
    record {
      runs =
          failed_read (messages_of check) _ _ _ _ (g.R.Read.remaining c.loop.reader) _ _ _ _ _ c.loop.invariant.1
          (c.loop.frame.items, takes_first c.loop.frame.items _, no_header c.loop.frame.items c.loop.invariant.0);
    }
