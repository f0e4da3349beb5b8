use Rattle.std.proofs.Common.{sym, ◌∙◌}
use Rattle.netlink_replies.proofs.PathLemmas.{none_if_fault, whole_if_none}
use Rattle.netlink_replies.proofs.path.find.Goals as goal

pub returns-then-is_some-clause-none : goal.returns-then-is_some-clause-none
returns-then-is_some-clause-none c =
    none_if_fault c.args.block.now c.args.offset c.nlas_fault.result c.nlas_fault.ensures.fault
    (sym c.is_some.ensures ∙ c.if-is_some.true)

pub seek-requires : goal.seek-requires
seek-requires c =
    whole_if_none c.args.block.now c.nlas_fault.result c.nlas_fault.ensures.fault
    (sym c.is_some.ensures ∙ c.if-is_some.false)
