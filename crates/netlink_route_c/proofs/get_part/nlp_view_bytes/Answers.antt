use Rattle.netlink_family.specs.Finding.{bytes_by}
use Rattle.netlink_route_c.proofs.Getting.{absent_gets_part}
use Rattle.netlink_route_c.proofs.get_part.nlp_view_bytes.Goals as goal

pub returns-in-Err : goal.returns-in-Err
returns-in-Err c = record {
  gets =
      absent_gets_part _ bytes_by c.args.payload.now c.args.view.now c.args.kind c.args.value.now c.in-Err.result
      c.in-Err.ensures.absent c.in-Err.ensures.some c.in-Err.ensures.shaped;
}
