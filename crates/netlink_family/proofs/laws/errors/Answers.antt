use Rattle.netlink_family.specs.PayloadErrorLaws.{message_complete}
use Rattle.netlink_family.specs.ErrorOffsets.{message_inside}
use Rattle.netlink_shapes.specs.Shapes.{has_type}
use Rattle.netlink_family.proofs.laws.errors.Goals as goal

pub returns-clause-complete : goal.returns-clause-complete
returns-clause-complete g c = λ h payload.
    message_complete (has_type g.F.Table.types h.message_type) (g.F.Table.short h.message_type) (g.F.Table.header_len h.message_type) (g.F.Table.rows h.message_type) h.message_type payload

pub returns-clause-inside : goal.returns-clause-inside
returns-clause-inside g c = λ h payload f.
    message_inside (has_type g.F.Table.types h.message_type) (g.F.Table.short h.message_type) (g.F.Table.header_len h.message_type) (g.F.Table.rows h.message_type) h.message_type payload f
