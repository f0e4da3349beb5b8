use Rattle.netlink_route_c.proofs.Getting.{absent_nest, nest_gets, start_in}
use Rattle.netlink_route_c.proofs.get_part.nlp_view_nest.Goals as goal

pub nest_view-requires-clause-start : goal.nest_view-requires-clause-start
nest_view-requires-clause-start c =
    start_in _ c.in-Ok.found.shape c.in-Ok.found.part c.in-Ok.found.value.now c.in-Ok.ensures.part c.in-Ok.ensures.inside
    c.in-Ok.ensures.fits

pub returns-in-Some : goal.returns-in-Some
returns-in-Some c =
    record {
      gets = nest_gets _ c.args.payload.now c.args.view.now c.args.kind _ c.nest_view.result c.in-Ok.found.shape c.in-Ok.found.part
          c.in-Ok.found.value.now c.in-Some.policy c.in-Ok.ensures.shape c.in-Ok.ensures.found c.in-Ok.ensures.part c.in-Ok.ensures.inside
          c.in-Ok.ensures.fits c.in-Some.ensures c.nest_view.ensures;
    }

pub returns-in-Err : goal.returns-in-Err
returns-in-Err c = record {
  gets =
      absent_nest _ c.args.payload.now c.args.view.now c.args.kind c.args.inner.now c.in-Err.result
      c.in-Err.ensures.absent c.in-Err.ensures.some c.in-Err.ensures.shaped;
}
