use Rattle.std.proofs.Common.{◌≡◌, false, List, ℕ, ◌++◌, ap, refl, rules, ◌∙◌}
use Rattle.netlink_family.specs.CanonicalPayloadLaws.{reading_canonical}
use Rattle.netlink_shapes.specs.Shapes.{has_type, reading_by}
use Rattle.netlink_shapes.specs.Short.{is_short}
use Rattle.netlink_family.specs.ShortLaws.{other_read}
use Rattle.netlink_family.proofs.Payloads.{good_own, good_read}
use Rattle.netlink_family.proofs.view.MessageView.to_owned.Goals as goal

pub invariant_of-result : goal.invariant_of-result
invariant_of-result g c =
    let view = c.args.self.now in
    let written = c.in_ok-copy_block.ensures.ok in
    let whole : is_short (g.F.Table.short view.message_type) (g.F.Table.header_len view.message_type) view.payload.now ≡ false = search rules in
    let begun : c.extend_from_slice.new.self.items ≡ c.header.result.bytes.now =
    c.in_ok-extend_from_slice.ensures.items ∙ ap (λ (x : List ℕ). x ++ c.header.result.bytes.now) c.in_ok-bytes.ensures.items in
    record {
      own =
          good_own (has_type g.F.Table.types view.message_type) (g.F.Table.short view.message_type) (g.F.Table.header_len view.message_type)
          (g.F.Table.rows view.message_type) view.message_type view.payload.now view.good;
      canonical =
          reading_canonical (g.F.Table.header_len view.message_type) (g.F.Table.rows view.message_type) view.payload.now c.copy_block.new.bytes.items
          (good_read (has_type g.F.Table.types view.message_type) (g.F.Table.short view.message_type) (g.F.Table.header_len view.message_type)
          (g.F.Table.rows view.message_type) view.message_type view.payload.now c.block.result.now c.header.result.bytes.now
          c.extend_from_slice.new.self.items c.copy_block.new.bytes.items written.0 written.1
          view.good whole c.block.ensures c.header.ensures.bytes begun written.2 written.3 0);
      cut = refl;
    }

pub returns-clause-reads : goal.returns-clause-reads
returns-clause-reads g c =
    let view = c.args.self.now in
    let written = c.in_ok-copy_block.ensures.ok in
    let whole : is_short (g.F.Table.short view.message_type) (g.F.Table.header_len view.message_type) view.payload.now ≡ false = search rules in
    let begun : c.extend_from_slice.new.self.items ≡ c.header.result.bytes.now =
    c.in_ok-extend_from_slice.ensures.items ∙ ap (λ (x : List ℕ). x ++ c.header.result.bytes.now) c.in_ok-bytes.ensures.items in
    λ u. other_read (g.F.Table.short view.message_type) (g.F.Table.header_len view.message_type) (reading_by (g.F.Table.rows view.message_type)) u
    view.payload.now whole
    ∙ good_read (has_type g.F.Table.types view.message_type) (g.F.Table.short view.message_type) (g.F.Table.header_len view.message_type)
    (g.F.Table.rows view.message_type) view.message_type view.payload.now c.block.result.now c.header.result.bytes.now
    c.extend_from_slice.new.self.items c.copy_block.new.bytes.items written.0 written.1
    view.good whole c.block.ensures c.header.ensures.bytes begun written.2 written.3 u
