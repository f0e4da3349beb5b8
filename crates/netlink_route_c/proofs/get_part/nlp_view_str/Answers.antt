use Rattle.netlink_family.specs.Finding.{str_by}
use Rattle.netlink_route_c.proofs.Getting.{absent_gets_part, text_gets}
use Rattle.netlink_route_c.proofs.get_part.nlp_view_str.Goals as goal

pub returns-in-Some : goal.returns-in-Some
returns-in-Some c =
    record {
      gets = text_gets _ c.args.payload.now c.args.view.now c.args.kind _ c.in-Ok.found.shape c.in-Ok.found.part c.in-Ok.found.value.now
          c.in-Some.size c.in-Ok.ensures.shape c.in-Ok.ensures.found c.in-Ok.ensures.part c.in-Ok.ensures.inside c.in-Ok.ensures.fits
          c.in-Some.ensures.some c.in-Some.ensures.inside;
    }

pub returns-in-Err : goal.returns-in-Err
returns-in-Err c = record {
  gets =
      absent_gets_part _ str_by c.args.payload.now c.args.view.now c.args.kind c.args.text.now c.in-Err.result
      c.in-Err.ensures.absent c.in-Err.ensures.some c.in-Err.ensures.shaped;
}
