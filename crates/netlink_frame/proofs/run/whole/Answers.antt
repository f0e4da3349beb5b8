use Rattle.std.proofs.Common.{rules}
use Rattle.netlink_frame.proofs.run.whole.Goals as goal

pub returns-in-Err-OutOfMemory-clause-memory : goal.returns-in-Err-OutOfMemory-clause-memory
returns-in-Err-OutOfMemory-clause-memory c = search rules
