use Rattle.netlink_family.specs.Shapes.{rows_in, within}
use Rattle.netlink_route_c.proofs.Items.{kept_is}
use Rattle.netlink_route_c.proofs.item.walked_choice.Goals as goal

pub returns-in-Some-clause-shape : goal.returns-in-Some-clause-shape
returns-in-Some-clause-shape c = λ kept.
    kept_is (within (rows_in c.args.rows.list.now) c.args.block.now) c.args.policy c.args.walk.now.last
    c.args.row c.in-Some.shape kept.0 c.in-Some.ensures.0 c.in-Some.ensures.1

pub returns-in-Some-kept_shape-clause-shape : goal.returns-in-Some-kept_shape-clause-shape
returns-in-Some-kept_shape-clause-shape c = λ kept.
    kept_is (within (rows_in c.args.rows.list.now) c.args.block.now) c.args.policy c.args.walk.now.before
    c.args.row c.in-Some-kept_shape.shape kept.1 c.in-Some-kept_shape.ensures.0 c.in-Some-kept_shape.ensures.1
