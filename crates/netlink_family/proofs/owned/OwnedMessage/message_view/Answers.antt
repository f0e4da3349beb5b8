use Rattle.std.proofs.Common.{List, ℕ, ap, ◌∙◌}
use Rattle.netlink_shapes.specs.Errors.{message_error}
use Rattle.netlink_shapes.specs.Shapes.{has_type}
use Rattle.netlink_family.proofs.Payloads.{canonical_good}
use Rattle.netlink_family.proofs.owned.OwnedMessage.message_view.Goals as goal

pub invariant_of-result : goal.invariant_of-result
invariant_of-result g c =
    let m = c.args.self.now in
    record {
      good =
          ap (λ (b : List ℕ). message_error (has_type g.F.Table.types m.message_type) (g.F.Table.short m.message_type)
          (g.F.Table.header_len m.message_type) (g.F.Table.rows m.message_type) m.message_type b) c.payload.ensures
          ∙ canonical_good (has_type g.F.Table.types m.message_type) (g.F.Table.short m.message_type) (g.F.Table.header_len m.message_type)
          (g.F.Table.rows m.message_type) m.message_type m.short m.bytes.items m.own m.canonical m.cut;
    }
