use Rattle.std.proofs.Common.{List, ℕ, ◌++◌, ap, length, refl, ◌∙◌, append_assoc, arith, length-append, length-take-le}
use Rattle.netlink_packet_core.specs.Block.{canonical_block}
use Rattle.netlink_family.specs.CanonicalPayloadLaws.{payload_read_at, too_long_at}
use Rattle.netlink_shapes.specs.Shapes.{reading_by}
use Rattle.netlink_family.proofs.normal.append_payload.Goals as goal

pub returns-then-len-start-gt-NLA_BLOCK_MAX-clause-error : goal.returns-then-len-start-gt-NLA_BLOCK_MAX-clause-error
returns-then-len-start-gt-NLA_BLOCK_MAX-clause-error g c =
    let parts = rw c.rows_of-rows.ensures.rows at c.in_ok-append_block.ensures.ok in
    let good = rw c.rows_of-rows.ensures.rows at c.in_ok-append_block.ensures.good in
    let front : List ℕ = c.split_at.result.0.now in
    let attributes : List ℕ = canonical_block parts.0 in
    let head = ap length c.split_at.ensures.front ∙ length-take-le c.args.size c.args.payload.now c.requires.long in
    let whole = ap length parts.3 ∙ length-append c.extend_from_slice.new.self.items attributes in
    let out = length-append front attributes in
    λ never. too_long_at (g.F.Table.header_len c.args.message_type) c.args.size (g.F.Table.rows c.args.message_type) c.args.payload.now
    front c.split_at.result.1.now front (front ++ attributes) parts.0 c.requires.size c.requires.long c.split_at.ensures.front
    c.split_at.ensures.back refl parts.1 good refl (omega (arith, head, whole, out))

pub returns-clause-reads : goal.returns-clause-reads
returns-clause-reads g c =
    let parts = rw c.rows_of-rows.ensures.rows at c.in_ok-append_block.ensures.ok in
    let front : List ℕ = c.split_at.result.0.now in
    let attributes : List ℕ = canonical_block parts.0 in
    let head = ap length c.split_at.ensures.front ∙ length-take-le c.args.size c.args.payload.now c.requires.long in
    let whole = ap length parts.3 ∙ length-append c.extend_from_slice.new.self.items attributes in
    let out = length-append front attributes in (
      front ++ attributes,
      parts.3 ∙ ap (λ (x : List ℕ). x ++ attributes) c.in_ok-extend_from_slice.ensures.items
          ∙ append_assoc c.args.bytes.now.items front attributes,
      λ t. payload_read_at (g.F.Table.header_len c.args.message_type) c.args.size (reading_by (g.F.Table.rows c.args.message_type))
          c.args.payload.now front c.split_at.result.1.now front (front ++ attributes) parts.0 c.requires.size c.requires.long
          c.split_at.ensures.front c.split_at.ensures.back refl parts.1 parts.2 refl (omega (arith, head, whole, out)) t,
    )
