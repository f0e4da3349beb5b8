use Rattle.std.proofs.Common.{rules, ◌≡◌, refl, [], arith}
use Rattle.std.proofs.KnownBytes.{prepend_known-nil}
use Rattle.std.proofs.lemmas.Result.{err_from_is_err_and}
use Rattle.std.specs.Io.KnownBytes.{Appends, prepend_known}
use Rattle.std.specs.Prelude.{◌||◌}
use Rattle.netlink_lines.specs.Check.{check_of}
use Rattle.netlink_lines.specs.Messages.{Check, memory_of}
use Rattle.netlink_lines.proofs.BlockRuns.{at_block_end, at_block_stop, block_shown, block_without_memory, known_blocks, no_block, no_block_write, reaches_start, too_many}
use Rattle.netlink_lines.proofs.Running.{keeps_one, starts_kept}
use Rattle.netlink_lines.proofs.blocks.blocks.Goals as goal
use Rattle.netlink_lines.proofs.blocks.blocks.Goals.{then-is_malformed, else-is_malformed}

pub loop-init : goal.loop-init
loop-init g c =
    let check : Check = check_of g.F.Table in
    (c.requires.few, rw c.start-section.ensures (reaches_start _), starts_kept (known_blocks check _) _ _ _ _)

pub returns-then-at-gt-LAST : goal.returns-then-at-gt-LAST
returns-then-at-gt-LAST g c =
    let check : Check = check_of g.F.Table in
    let old = prepend_known c.args.first.items (g.R.Read.remaining c.args.reader.now) in
    record {
      runs =
          too_many check _ old (g.R.Read.remaining c.loop.reader) _ _ c.loop.section c.loop.block.items _ _ _ c.loop.invariant.2
          c.loop.invariant.1 c.loop.invariant.0;
    }

pub returns-in_err-next : goal.returns-in_err-next
returns-in_err-next g c =
    let check : Check = check_of g.F.Table in
    let old = prepend_known c.args.first.items (g.R.Read.remaining c.args.reader.now) in
    let p = err_from_is_err_and c.from_residual.result c.from_residual.ensures.1 in
    record {
      runs =
          rw (p.1, p.2) (no_block check _ old _ (g.R.Read.remaining c.read_block.new.reader) _ _ c.loop.section _ _ _ _ c.loop.invariant.2
          c.loop.invariant.1 c.in_err-next.ensures.fault);
    }

pub returns-in-End : goal.returns-in-End
returns-in-End g c =
    let check : Check = check_of g.F.Table in
    let old = prepend_known c.args.first.items (g.R.Read.remaining c.args.reader.now) in
    record {
      runs =
          rw c.end_of.ensures.is (at_block_end check _ old _ (g.R.Read.remaining c.read_block.new.reader) _ _ _ _ _ c.loop.invariant.2
          (rw c.in-End.is at c.in_ok-next.ensures.next));
    }

pub returns-in-Stop : goal.returns-in-Stop
returns-in-Stop g c =
    let check : Check = check_of g.F.Table in
    let old = prepend_known c.args.first.items (g.R.Read.remaining c.args.reader.now) in
    record {
      runs =
          at_block_stop check _ old _ (g.R.Read.remaining c.read_block.new.reader) _ _ c.loop.section _ _ _ c.in-Stop.why
          c.loop.invariant.2 c.loop.invariant.1 (rw c.in-Stop.is at c.in_ok-next.ensures.next);
    }

pub returns-in_err-is_bad : goal.returns-in_err-is_bad
returns-in_err-is_bad g c =
    let check : Check = check_of g.F.Table in
    let old = prepend_known c.args.first.items (g.R.Read.remaining c.args.reader.now) in
    let p = err_from_is_err_and c.from_residual-in_err-is_bad.result c.from_residual-in_err-is_bad.ensures.1 in
    record {
      runs =
          rw (p.1, p.2, c.in_err-is_bad.ensures.fault) (block_without_memory check _ old _ (g.R.Read.remaining c.read_block.new.reader)
          _ _ _ _ _ (memory_of c.block_lines.new.state) c.loop.invariant.2);
    }

pub returns-in_err-write_through : goal.returns-in_err-write_through
returns-in_err-write_through g c =
    let check : Check = check_of g.F.Table in
    let old = prepend_known c.args.first.items (g.R.Read.remaining c.args.reader.now) in
    let left = g.R.Read.remaining c.read_block.new.reader in
    let now = prepend_known c.loop.block.items (g.R.Read.remaining c.loop.reader) in
    let (bytes, shown, size, reached) =
    block_shown check old now left c.loop.section c.loop.at c.read_block.new.block.items c.deref.result.now
    c.in_ok-next.field-0 c.in-Block.next (memory_of c.loop.state) (memory_of c.stamp.new.self) (c.block_lines.new.lines.items, c.in_ok-is_bad.is_bad)
    (memory_of c.block_lines.new.state) c.loop.invariant.1 c.in_ok-next.ensures.next c.in-Block.is c.deref.ensures.value
    c.stamp.ensures c.in_ok-is_bad.ensures.tells in
    let p = err_from_is_err_and c.from_residual-in_err-write_through.result c.from_residual-in_err-write_through.ensures.1 in
    record {
      runs =
          rw (p.1, p.2) (no_block_write check _ old now left _ _ (g.W.Write.contents c.write_through.new.writer) _ _ _ bytes _ _
          c.loop.invariant.2 shown (rw c.deref-in-loop.ensures.value at c.in_err-write_through.ensures.part));
    }

pub loop-preserved : goal.loop-preserved
loop-preserved g c =
    let check : Check = check_of g.F.Table in
    let old = prepend_known c.args.first.items (g.R.Read.remaining c.args.reader.now) in
    let left = g.R.Read.remaining c.read_block.new.reader in
    let now = prepend_known c.loop.block.items (g.R.Read.remaining c.loop.reader) in
    let (bytes, shown, size, reached) =
    block_shown check old now left c.loop.section c.loop.at c.read_block.new.block.items c.deref.result.now
    c.in_ok-next.field-0 c.in-Block.next (memory_of c.loop.state) (memory_of c.stamp.new.self) (c.block_lines.new.lines.items, c.in_ok-is_bad.is_bad)
    (memory_of c.block_lines.new.state) c.loop.invariant.1 c.in_ok-next.ensures.next c.in-Block.is c.deref.ensures.value
    c.stamp.ensures c.in_ok-is_bad.ensures.tells in
    let after : c.if-is_malformed.is_malformed ≡ (c.loop.is_malformed || c.in_ok-is_bad.is_bad) =
    elim c.if-is_malformed.branch [
      | then-is_malformed w ↦ rw (w.is_malformed-is, w.if-is_malformed.true) refl
      | else-is_malformed w ↦ rw (w.is_malformed-is, w.if-is_malformed.false) refl
    ] in
    let wrote : Appends (g.W.Write.contents c.loop.writer) (g.W.Write.contents c.write_through.new.writer) c.block_lines.new.lines.items =
    rw c.deref-in-loop.ensures.value at c.in_ok-write_through.ensures.whole in
    let kept =
    keeps_one (known_blocks check old) (memory_of c.args.state.now) 0 old now left (g.W.Write.contents c.args.writer.now)
    (g.W.Write.contents c.loop.writer) (g.W.Write.contents c.write_through.new.writer) 0 c.loop.at (memory_of c.loop.state)
    c.loop.is_malformed bytes (c.block_lines.new.lines.items, c.in_ok-is_bad.is_bad) (memory_of c.block_lines.new.state)
    c.loop.invariant.2 shown wrote in
    let none : c.clear.new.self.items ≡ [] = search rules in
    (rw none (omega arith), rw (none, prepend_known-nil left) reached, rw (none, prepend_known-nil left, after) (rw size at kept))

pub returns : goal.returns
returns g c =
    let check : Check = check_of g.F.Table in
    let old = prepend_known c.args.first.items (g.R.Read.remaining c.args.reader.now) in
    record {
      runs =
          too_many check _ old (g.R.Read.remaining c.loop.reader) _ _ c.loop.section c.loop.block.items _ _ _ c.loop.invariant.2
          c.loop.invariant.1 c.loop.invariant.0;
    }
