use Rattle.std.proofs.Common.{rules}
use Rattle.netlink_packet_core.proofs.canonical.reads_as_itself.Goals as goal

pub returns-in-Err-2-clause-memory : goal.returns-in-Err-2-clause-memory
returns-in-Err-2-clause-memory g c = search rules

pub returns-in_ok-is_written_as-in-Ok-clause-says : goal.returns-in_ok-is_written_as-in-Ok-clause-says
returns-in_ok-is_written_as-in-Ok-clause-says g c = search rules
