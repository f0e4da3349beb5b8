use Rattle.std.proofs.Common.{arith}
use Rattle.netlink_attributes.proofs.WalkLemmas.{gives_walk}
use Rattle.netlink_attributes.proofs.iterator.NlasIterator+ref+slice+u8.new.Goals as goal

pub returns-clause-items : goal.returns-clause-items
returns-clause-items c = gives_walk _ (λ i. omega (arith, c.type_inv.buffer i))
