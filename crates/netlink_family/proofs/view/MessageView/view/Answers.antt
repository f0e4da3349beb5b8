use Rattle.netlink_shapes.specs.Shapes.{has_type, rows_in}
use Rattle.netlink_family.proofs.Payloads.{good_shaped}
use Rattle.netlink_family.proofs.view.MessageView.view.Goals as goal

pub invariant_of-result : goal.invariant_of-result
invariant_of-result g c =
    let view = c.args.self.now in
    record {
      shaped =
          good_shaped (has_type g.F.Table.types view.message_type) (g.F.Table.short view.message_type) (g.F.Table.header_len view.message_type)
          (g.F.Table.rows view.message_type) (rows_in c.rows_of.result.list.now) view.message_type view.payload.now c.block.result.now c.block.ensures
          c.rows_of.ensures.rows view.good;
    }
