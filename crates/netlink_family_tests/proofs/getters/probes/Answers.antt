use Rattle.std.proofs.Common.{rules}
use Rattle.netlink_family_tests.proofs.getters.probes.Goals as goal

pub returns : goal.returns
returns c = search rules
