use Rattle.std.proofs.Common.{rules}
use Rattle.netlink_family_tests.proofs.views.numbers.Goals as goal

pub returns-in-Err-clause-good : goal.returns-in-Err-clause-good
returns-in-Err-clause-good c = search rules
