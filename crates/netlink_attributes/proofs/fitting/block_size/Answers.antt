use Rattle.std.proofs.Common.{arith}
use Rattle.netlink_attributes.proofs.SizeLemmas.{each_attribute}
use Rattle.netlink_attributes.proofs.fitting.block_size.Goals as goal

pub returns-clause-each : goal.returns-clause-each
returns-clause-each g c =
    each_attribute g.T.Nla.kind_of g.T.Nla.value_of c.args.list.now
    (λ k d inside. c.loop-nla.invariant.each k d (omega arith) (omega arith))
