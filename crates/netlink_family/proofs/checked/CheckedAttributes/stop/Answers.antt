use Rattle.netlink_shapes.specs.Errors.{rest_error}
use Rattle.netlink_shapes.specs.Shapes.{rows_in, within}
use Rattle.netlink_packet_core.specs.Steps.{unread}
use Rattle.netlink_family.proofs.Payloads.{error_shaped, none_left}
use Rattle.netlink_family.proofs.checked.CheckedAttributes.stop.Goals as goal

pub block_error-error-requires-clause-some : goal.block_error-error-requires-clause-some
block_error-error-requires-clause-some g c =
    let all = c.args.self.now in
    error_shaped (rows_in all.rows.list.now) (g.F.Table.rows all.message_type) all.end all.block.now
    (rest_error (within (g.F.Table.rows all.message_type) all.block.now) all.end (unread all.walk)) all.table all.passed c.requires

pub invariant_of-self : goal.invariant_of-self
invariant_of-self g c =
    let all = c.args.self.now in
    record {
      table = all.table;
      inside = all.inside;
      passed =
          λ some. absurd (none_left (within (g.F.Table.rows all.message_type) all.block.now) all.end
          (unread c.new-self.result) c.new-self.ensures.keeps some);
      chosen = all.chosen;
    }
