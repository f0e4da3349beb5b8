use Rattle.std.proofs.Common.{rules}
use Rattle.netlink_ethernet.proofs.Rows.{numbers_are}
use Rattle.netlink_ethernet.proofs.comparisons.Comparisons.compare.Goals as goal

pub returns-clause-order : goal.returns-clause-order
returns-clause-order c = rw numbers_are (search rules)
