use Rattle.std.proofs.Common.{ap, ◌∙◌}
use Rattle.netlink_shapes.specs.Shapes.{are_sorted}
use Rattle.netlink_family.proofs.family.rows_of.Goals as goal

pub invariant_of-result : goal.invariant_of-result
invariant_of-result g c = record { sorted = ap are_sorted c.rows.ensures.rows ∙ g.met.F.Table.sorted c.args.message_type }
