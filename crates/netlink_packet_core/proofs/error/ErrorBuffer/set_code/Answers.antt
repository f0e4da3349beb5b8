use Rattle.std.proofs.Common.{rules}
use Rattle.netlink_packet_core.proofs.error.ErrorBuffer.set_code.Goals as goal

pub returns-clause-bytes : goal.returns-clause-bytes
returns-clause-bytes g c = search rules

pub returns-clause-same_storage : goal.returns-clause-same_storage
returns-clause-same_storage g c = search rules
