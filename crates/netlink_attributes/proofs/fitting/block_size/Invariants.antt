use Rattle.netlink_attributes.proofs.SizeLemmas.{FitSoFar}
use Rattle.netlink_attributes.proofs.fitting.block_size.Given as goal

abbrev pub invariant-loop-nla : goal.invariant-loop-nla
invariant-loop-nla g l = FitSoFar g.T.Nla.kind_of g.T.Nla.value_of l.list l.nla-index l.size
