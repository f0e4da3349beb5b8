use Rattle.std.proofs.Common.{rules}
use Rattle.netlink_generic.proofs.request.request_by_name.Goals as goal

pub returns-clause-memory : goal.returns-clause-memory
returns-clause-memory c = search rules

pub returns-clause-payload : goal.returns-clause-payload
returns-clause-payload c = search rules
