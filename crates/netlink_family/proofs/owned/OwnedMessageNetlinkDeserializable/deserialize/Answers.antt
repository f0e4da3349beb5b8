use Rattle.std.proofs.Common.{◌≡◌, true, rules, ap, ◌∙◌, Bool, None}
use Rattle.std.specs.Prelude.{if◌then◌else◌}
use Rattle.std.proofs.lemmas.Result.{err_from_is_err_and}
use Rattle.netlink_family.specs.PayloadErrorLaws.{payload_rejected}
use Rattle.netlink_family.specs.PayloadReading.{short_reading}
use Rattle.netlink_shapes.specs.Shapes.{has_type, reading_by}
use Rattle.netlink_family.proofs.owned.OwnedMessageNetlinkDeserializable.deserialize.Goals as goal

pub returns-in_err-message-clause-refuses : goal.returns-in_err-message-clause-refuses
returns-in_err-message-clause-refuses g c =
    let error = err_from_is_err_and c.from_residual.result c.from_residual.ensures.1 in
    let own : has_type g.F.Table.types c.args.header.now.message_type ≡ true = search rules in
    rw (error.1, error.2) (λ never.
    ap (λ (b : Bool). if b then short_reading (g.F.Table.short c.args.header.now.message_type) (g.F.Table.header_len c.args.header.now.message_type) (reading_by (g.F.Table.rows c.args.header.now.message_type)) c.args.header.now.message_type c.args.payload.now else None) own
    ∙ payload_rejected (g.F.Table.short c.args.header.now.message_type) (g.F.Table.header_len c.args.header.now.message_type) (g.F.Table.rows c.args.header.now.message_type) c.args.header.now.message_type c.args.payload.now _ (c.in_err-message.ensures.error never))
