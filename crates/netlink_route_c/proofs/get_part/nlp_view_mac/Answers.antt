use Rattle.netlink_route_c.specs.Gets.{mac_by}
use Rattle.netlink_route_c.proofs.Getting.{absent_gets}
use Rattle.netlink_route_c.proofs.get_part.nlp_view_mac.Goals as goal

pub returns-in-Err : goal.returns-in-Err
returns-in-Err c = record {
  gets =
      absent_gets _ mac_by c.args.payload.now c.args.view.now c.args.kind c.args.address.now c.in-Err.result
      c.in-Err.ensures.absent c.in-Err.ensures.some c.in-Err.ensures.shaped;
}
