use Rattle.std.proofs.Common.{rules}
use Rattle.netlink_c.proofs.HeaderLemmas.{header_of_halves}
use Rattle.netlink_c.proofs.messages.header_at.Goals as goal

pub returns : goal.returns
returns c = search (rules, header_of_halves)
