use Rattle.std.proofs.Common.{arith}
use Rattle.netlink_shapes.specs.RowSearch.{found_at}
use Rattle.netlink_shapes.proofs.shape.near_row.Goals as goal

pub returns-then-is_same : goal.returns-then-is_same
returns-then-is_same c =
    found_at c.args.policy c.args.kind c.args.rows.list.now _ c.args.rows.sorted (omega arith) c.is_same.result c.is_same.ensures c.if-is_same.true

pub returns-then-is_same-2 : goal.returns-then-is_same-2
returns-then-is_same-2 c =
    found_at c.args.policy c.args.kind c.args.rows.list.now _ c.args.rows.sorted (omega arith) c.is_same-then-at-rows.result
    c.is_same-then-at-rows.ensures c.if-is_same-2.true
