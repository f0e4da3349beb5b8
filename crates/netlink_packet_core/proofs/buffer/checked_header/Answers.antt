use Rattle.std.proofs.Common.{rules}
use Rattle.netlink_packet_core.proofs.buffer.checked_header.Goals as goal

pub returns-clause-whole : goal.returns-clause-whole
returns-clause-whole c = search rules
