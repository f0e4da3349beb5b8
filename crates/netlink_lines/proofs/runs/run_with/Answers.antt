use Rattle.std.proofs.Common.{◌≡◌, ◌∙◌, sym}
use Rattle.std.proofs.lemmas.Result.{err_from_is_err_and}
use Rattle.netlink_lines.specs.Check.{check_of}
use Rattle.netlink_lines.specs.Messages.{Check, memory_of}
use Rattle.netlink_input.specs.Pcap.{layout_of}
use Rattle.netlink_input.specs.declared.pcap.Layout.TheVariants.{Blocks, Messages, Packets, Unread}
use Rattle.netlink_lines.proofs.Starting.{few_first, no_start, runs_blocks, runs_messages, runs_packets, runs_unread, starts_without_memory}
use Rattle.netlink_lines.proofs.runs.run_with.Goals as goal

pub returns-in_err-first : goal.returns-in_err-first
returns-in_err-first g c =
    let check : Check = check_of g.F.Table in
    let p = err_from_is_err_and c.from_residual.result c.from_residual.ensures.1 in
    record {
      runs = rw (p.1, p.2) (starts_without_memory check c.args.options (g.R.Read.remaining c.args.reader.now)
          (g.R.Read.remaining c.args.reader.now) (g.W.Write.contents c.args.writer.now));
    }

pub returns-in_err-read_start : goal.returns-in_err-read_start
returns-in_err-read_start g c =
    let check : Check = check_of g.F.Table in
    let p = err_from_is_err_and c.from_residual-in_err-read_start.result c.from_residual-in_err-read_start.ensures.1 in
    record { runs = rw (p.1, p.2) (no_start check c.args.options _ _ _ _ c.in_err-read_start.ensures.fault) }

pub returns-in-Messages : goal.returns-in-Messages
returns-in-Messages g c =
    let check : Check = check_of g.F.Table in
    let is : layout_of c.read_start.new.first.items ≡ Messages =
    rw c.deref.ensures.value at (sym c.layout_of.ensures.layout ∙ c.in-Messages.is) in
    record {
      runs =
          runs_messages check c.args.options _ _ _ _ _ c.read_start.new.first.items (memory_of c.new-state.result) (memory_of c.messages.new.state) _
          c.in_ok-read_start.ensures.start is c.new-state.ensures c.messages.ensures.runs;
    }

pub returns-in-Packets : goal.returns-in-Packets
returns-in-Packets g c =
    let check : Check = check_of g.F.Table in
    let is : layout_of c.read_start.new.first.items ≡ Packets c.in-Packets.order =
    rw c.deref.ensures.value at (sym c.layout_of.ensures.layout ∙ c.in-Packets.is) in
    record {
      runs =
          runs_packets check c.args.options c.in-Packets.order c.is_nano-is_nano.result _ _ _ _ _ c.read_start.new.first.items (memory_of c.new-state.result)
          (memory_of c.packets.new.state) _ c.in_ok-read_start.ensures.start is (rw c.deref-in-Packets.ensures.value at c.is_nano-is_nano.ensures) c.new-state.ensures c.packets.ensures.runs;
    }

pub blocks-requires : goal.blocks-requires
blocks-requires g c =
    let is : layout_of c.read_start.new.first.items ≡ Blocks =
    rw c.deref.ensures.value at (sym c.layout_of.ensures.layout ∙ c.in-Blocks.is) in
    record { few = few_first _ _ c.read_start.new.first.items c.in_ok-read_start.ensures.start is }

pub returns-in-Blocks : goal.returns-in-Blocks
returns-in-Blocks g c =
    let check : Check = check_of g.F.Table in
    let is : layout_of c.read_start.new.first.items ≡ Blocks =
    rw c.deref.ensures.value at (sym c.layout_of.ensures.layout ∙ c.in-Blocks.is) in
    record {
      runs =
          runs_blocks check c.args.options _ _ _ _ _ c.read_start.new.first.items (memory_of c.new-state.result) (memory_of c.blocks-in-Blocks.new.state) _
          c.in_ok-read_start.ensures.start is c.new-state.ensures c.blocks-in-Blocks.ensures.runs;
    }

pub returns-in-Unread : goal.returns-in-Unread
returns-in-Unread g c =
    let check : Check = check_of g.F.Table in
    let is : layout_of c.read_start.new.first.items ≡ Unread c.in-Unread.stop =
    rw c.deref.ensures.value at (sym c.layout_of.ensures.layout ∙ c.in-Unread.is) in
    record { runs = runs_unread check c.args.options c.in-Unread.stop _ _ _ _ c.read_start.new.first.items c.in_ok-read_start.ensures.start is }
