use Rattle.std.proofs.Common.{rules}
use Rattle.netlink_program.proofs.ending.EndingDisplay.fmt.Goals as goal

pub returns-in-Failed-clause-writes : goal.returns-in-Failed-clause-writes
returns-in-Failed-clause-writes g c = search rules

pub returns-in-Usage-clause-writes : goal.returns-in-Usage-clause-writes
returns-in-Usage-clause-writes g c = search rules
