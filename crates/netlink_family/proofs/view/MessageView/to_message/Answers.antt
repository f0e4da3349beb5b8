use Rattle.std.proofs.Common.{ℕ, ap, sym, ◌∙◌, Some, rules}
use Rattle.netlink_family.specs.MessageLaws.{message_reads, own_type, own_types}
use Rattle.netlink_shapes.specs.Shapes.{has_type, reading_by}
use Rattle.netlink_shapes.specs.Short.{sent}
use Rattle.netlink_family.proofs.Payloads.{good_own}
use Rattle.netlink_family.proofs.view.MessageView.to_message.Goals as goal

pub returns-clause-frame : goal.returns-clause-frame
returns-clause-frame g c = λ bytes begins.
    let view = c.args.self.now in
    let message = c.in_ok-message.message in
    let is = good_own (has_type g.F.Table.types view.message_type) (g.F.Table.short view.message_type) (g.F.Table.header_len view.message_type)
    (g.F.Table.rows view.message_type) view.message_type view.payload.now view.good in
    rw c.new.ensures.keeps (
      view.payload.now,
      begins,
      (
        own_type c.args.header.message_type view.message_type c.requires.message_type (own_types g.F.Table.types g.met.F.Family.own view.message_type is).0,
        search rules,
        message_reads (has_type g.F.Table.types) g.F.Table.short g.F.Table.header_len (λ t. reading_by (g.F.Table.rows t)) view.message_type is c.args.header view.payload.now c.requires.message_type
            ∙ c.in_ok-message.ensures.reads view.message_type
            ∙ ap (λ (n : ℕ). Some (n, sent message.short message.bytes.items)) (sym c.in_ok-message.ensures.message_type),
      ),
    )
