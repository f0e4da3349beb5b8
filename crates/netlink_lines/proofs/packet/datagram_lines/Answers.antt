use Rattle.std.proofs.Common.{refl, Some}
use Rattle.netlink_lines.specs.Check.{check_of}
use Rattle.netlink_lines.specs.Messages.{Check, memory_of}
use Rattle.netlink_lines.proofs.Datagrams.{datagram_ends}
use Rattle.netlink_lines.proofs.packet.datagram_lines.Goals as goal

pub returns-in-Ok-clause-tells : goal.returns-in-Ok-clause-tells
returns-in-Ok-clause-tells g c =
    let check : Check = check_of g.F.Table in
    datagram_ends check c.args.is_cut (memory_of c.args.state.now) (memory_of c.all_messages.new.state) c.args.at c.new.result.items c.args.datagram.now
    (Some c.all_messages.new.reader.now) c.args.lines.now.items c.all_messages.new.writer.items c.push_stop.new.lines.items _
    c.in_ok-is_stopped-in-Ok.is_stopped c.in-Ok.outcome c.all_messages.result c.new.ensures.items c.requires.empty c.in-Ok.is
    c.in_ok-is_stopped-in-Ok.ensures.line c.in_ok-is_stopped-in-Ok.ensures.malformed refl c.all_messages.ensures.runs
