use Rattle.std.proofs.Common.{rules}
use Rattle.netlink_ethernet.proofs.protocol.EthernetProtocol.name.Goals as goal

pub returns : goal.returns
returns c = search rules
