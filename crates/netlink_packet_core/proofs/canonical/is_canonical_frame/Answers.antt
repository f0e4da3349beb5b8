use Rattle.std.proofs.Common.{rules}
use Rattle.netlink_packet_core.proofs.canonical.is_canonical_frame.Goals as goal

pub returns-in-1-clause-says : goal.returns-in-1-clause-says
returns-in-1-clause-says g c = search rules

pub returns-in-4-clause-says : goal.returns-in-4-clause-says
returns-in-4-clause-says g c = search rules

pub returns-in-4-clause-memory : goal.returns-in-4-clause-memory
returns-in-4-clause-memory g c = search rules

pub returns-in-4-clause-own_type : goal.returns-in-4-clause-own_type
returns-in-4-clause-own_type g c = search rules

pub returns-in-4-clause-no_memory : goal.returns-in-4-clause-no_memory
returns-in-4-clause-no_memory g c = search rules

pub returns-in-2-clause-says : goal.returns-in-2-clause-says
returns-in-2-clause-says g c = search rules
