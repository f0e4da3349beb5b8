use Rattle.std.proofs.Common.{rules}
use Rattle.netlink_generic.proofs.groups.GroupsIterator.next.Goals as goal

pub returns-in-Nested-clause-steps : goal.returns-in-Nested-clause-steps
returns-in-Nested-clause-steps c = search rules
