use Rattle.std.proofs.Common.{rules, ◌-◌, arith, drop, length, length-drop}
use Rattle.std.proofs.lemmas.List.{take_all}
use Rattle.netlink_lines.specs.Check.{check_of}
use Rattle.netlink_lines.specs.Messages.{Check, memory_of}
use Rattle.netlink_lines.proofs.Datagrams.{nothing_torn, torn_tells}
use Rattle.netlink_lines.proofs.packet.torn_lines.Goals as goal

pub returns-then-not-is_route-clause-tells : goal.returns-then-not-is_route-clause-tells
returns-then-not-is_route-clause-tells g c =
    let check : Check = check_of g.F.Table in
    nothing_torn check c.args.at c.args.packet.now (memory_of c.args.state.now) c.args.lines.now.items (search rules) c.requires.empty

pub returns-clause-tells : goal.returns-clause-tells
returns-clause-tells g c =
    let check : Check = check_of g.F.Table in
    torn_tells check c.args.at c.args.packet.now _ (memory_of c.args.state.now) (memory_of c.datagram_lines.new.state)
    c.datagram_lines.new.lines.items c.datagram_lines.result (search rules)
    (take_all (length c.args.packet.now - 32) (drop 32 c.args.packet.now) (omega (arith, length-drop 32 c.args.packet.now)))
    c.datagram_lines.ensures.tells
