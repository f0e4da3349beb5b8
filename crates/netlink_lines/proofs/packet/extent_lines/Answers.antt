use Rattle.std.proofs.Common.{rules, ◌≡◌, ◌+◌, ◌-◌, arith, drop, length, length-drop, string_bytes}
use Rattle.std.proofs.lemmas.List.{take_all}
use Rattle.netlink_lines.specs.Check.{check_of}
use Rattle.netlink_lines.specs.Messages.{Check, memory_of}
use Rattle.netlink_lines.proofs.Datagrams.{cut_tells, other_tells, packet_tells}
use Rattle.netlink_lines.proofs.packet.extent_lines.Goals as goal

pub returns-in-Messages-clause-tells : goal.returns-in-Messages-clause-tells
returns-in-Messages-clause-tells g c =
    let check : Check = check_of g.F.Table in
    packet_tells check c.args.extent c.args.at c.args.packet.now _ (memory_of c.args.state.now) (memory_of c.datagram_lines.new.state)
    c.datagram_lines.new.lines.items c.content_of.result c.datagram_lines.result c.content_of.ensures c.in-Messages.is
    (take_all (length c.args.packet.now - (c.args.extent.from + 16)) (drop (c.args.extent.from + 16) c.args.packet.now)
    (omega (arith, length-drop (c.args.extent.from + 16) c.args.packet.now)))
    c.datagram_lines.ensures.tells

pub returns-in_ok-extend_from_slice-in-CutMessages-clause-tells : goal.returns-in_ok-extend_from_slice-in-CutMessages-clause-tells
returns-in_ok-extend_from_slice-in-CutMessages-clause-tells g c =
    let check : Check = check_of g.F.Table in
    let shown = c.in_ok-shown-in-CutMessages.shown in
    cut_tells check c.args.extent c.args.at c.args.packet.now _ (memory_of c.args.state.now) (memory_of c.datagram_lines-in-CutMessages.new.state)
    c.datagram_lines-in-CutMessages.new.lines.items c.extend_from_slice.new.self.items (string_bytes shown.text) _ shown.is_malformed
    c.in-CutMessages.captured c.in-CutMessages.original c.content_of.result c.content_of.ensures c.in-CutMessages.is
    (take_all (length c.args.packet.now - (c.args.extent.from + 16)) (drop (c.args.extent.from + 16) c.args.packet.now)
    (omega (arith, length-drop (c.args.extent.from + 16) c.args.packet.now)))
    c.in_ok-datagram_lines-in-CutMessages.ensures.tells c.in_ok-shown-in-CutMessages.ensures (search rules)

pub returns-in_ok-extend_from_slice-in_default : goal.returns-in_ok-extend_from_slice-in_default
returns-in_ok-extend_from_slice-in_default g c =
    let check : Check = check_of g.F.Table in
    let shown = c.in_ok-shown-in_default.shown in
    let size : c.saturating_sub-size.result ≡ length c.args.packet.now - (c.args.extent.from + 16) = search rules in
    let text : c.extend_from_slice-in_default.new.self.items ≡ string_bytes shown.text = search rules in
    record {
      tells =
          other_tells check c.args.extent c.args.at c.args.packet.now (memory_of c.args.state.now) c.extend_from_slice-in_default.new.self.items
          (string_bytes shown.text) shown.is_malformed c.content_of.result c.content_of.ensures c.in_default.not-Messages c.in_default.not-CutMessages text
          (rw size at c.in_ok-shown-in_default.ensures);
      fault = tt;
    }
