use Rattle.netlink_family.specs.Finding.{u16_by}
use Rattle.netlink_route_c.proofs.Getting.{absent_gets}
use Rattle.netlink_route_c.proofs.get.nlp_view_u16.Goals as goal

pub returns-in-Err : goal.returns-in-Err
returns-in-Err c = record {
  gets =
      absent_gets _ u16_by c.args.payload.now c.args.view.now c.args.kind c.args.number.now c.in-Err.result
      c.in-Err.ensures.absent c.in-Err.ensures.some c.in-Err.ensures.shaped;
}
