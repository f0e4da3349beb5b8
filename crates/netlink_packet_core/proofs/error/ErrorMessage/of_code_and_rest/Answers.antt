use Rattle.std.proofs.Common.{rules}
use Rattle.netlink_packet_core.proofs.error.ErrorMessage.of_code_and_rest.Goals as goal

pub returns-clause-ok : goal.returns-clause-ok
returns-clause-ok c = search rules
