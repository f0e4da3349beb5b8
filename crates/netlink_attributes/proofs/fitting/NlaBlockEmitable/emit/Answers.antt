use Rattle.std.proofs.Common.{sym, subst}
use Rattle.netlink_attributes.specs.Nla.{AllFit}
use Rattle.netlink_attributes.proofs.SizeLemmas.{values_fit}
use Rattle.netlink_attributes.proofs.fitting.NlaBlockEmitable.emit.Goals as goal

pub emit-requires-clause-can : goal.emit-requires-clause-can
emit-requires-clause-can g c =
    subst (AllFit g.T.Nla.value_of) (sym c.as_slice.ensures.value)
    (values_fit g.T.Nla.kind_of g.T.Nla.value_of c.args.self.now.list.items c.args.self.now.each)
