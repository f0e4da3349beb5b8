use Rattle.std.proofs.Common.{◌-◌, length, arith, sym, ◌∙◌}
use Rattle.netlink_shapes.specs.RowSearch.{none_after}
use Rattle.netlink_shapes.proofs.shape.all_precede.Goals as goal

pub returns : goal.returns
returns c = λ is. none_after c.args.policy c.args.kind c.args.rows.list.now (length c.args.rows.list.now - 1) c.args.rows.sorted (omega arith) (sym c.is_before.ensures ∙ is)
