use Rattle.std.proofs.Common.{sym, ◌∙◌}
use Rattle.netlink_route_c.proofs.Shaped.{view_not_misfit}
use Rattle.netlink_route_c.proofs.find.seen.Goals as goal

pub returns-then-not-has_shape-clause-shaped : goal.returns-then-not-has_shape-clause-shaped
returns-then-not-has_shape-clause-shaped c = λ is same.
    view_not_misfit _ c.args.payload.now c.args.view.now c.args.kind _ c.shape_in-shape.result c.shape_in-shape.ensures
    c.in-Some.ensures.some (sym c.has_shape.ensures ∙ c.if-not-has_shape.true) is
