use Rattle.netlink_shapes.specs.Shapes.{has_type}
use Rattle.netlink_family.proofs.Payloads.{good_own}
use Rattle.netlink_family.proofs.view.own_type.Goals as goal

pub returns : goal.returns
returns g c =
    let view = c.args.view.now in
    good_own (has_type g.F.Table.types view.message_type) (g.F.Table.short view.message_type)
    (g.F.Table.header_len view.message_type) (g.F.Table.rows view.message_type) view.message_type view.payload.now view.good
