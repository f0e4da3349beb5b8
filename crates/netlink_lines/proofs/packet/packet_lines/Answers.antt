use Rattle.std.proofs.Common.{ap, arith}
use Rattle.netlink_input.specs.declared.packet.Extent.{Extent}
use Rattle.netlink_lines.proofs.packet.packet_lines.Goals as goal

pub extent_lines-requires-clause-room : goal.extent_lines-requires-clause-room
extent_lines-requires-clause-room g c =
    omega (arith, ap (λ (e : Extent). e.from) c.extent_of-extent.ensures, c.requires.room)

pub returns-clause-tells : goal.returns-clause-tells
returns-clause-tells g c = rw c.extent_of-extent.ensures at c.extent_lines.ensures.tells
