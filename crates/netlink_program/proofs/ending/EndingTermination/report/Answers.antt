use Rattle.std.proofs.Common.{rules}
use Rattle.netlink_program.proofs.ending.EndingTermination.report.Goals as goal

pub returns : goal.returns
returns g c = search rules
