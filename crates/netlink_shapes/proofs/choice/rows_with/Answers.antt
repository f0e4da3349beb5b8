use Rattle.std.proofs.Common.{arith}
use Rattle.netlink_shapes.specs.PolicyRows.{drop_smaller}
use Rattle.netlink_shapes.proofs.choice.rows_with.Goals as goal

pub rows_after-requires-clause-part : goal.rows_after-requires-clause-part
rows_after-requires-clause-part c =
    drop_smaller c.args.policy c.args.rows.list.now 8 c.args.rows.sorted (omega arith) (omega arith)
