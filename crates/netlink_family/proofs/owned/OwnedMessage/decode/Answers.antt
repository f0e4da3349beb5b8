use Rattle.std.proofs.Common.{◌≡◌, List, ℕ, ◌++◌, Some, ap, sym, ◌∙◌, arith}
use Rattle.netlink_family.specs.CanonicalPayloadLaws.{reading_canonical}
use Rattle.netlink_shapes.specs.Shapes.{reading_by}
use Rattle.netlink_family.specs.ShortLaws.{other_read, whole_not}
use Rattle.netlink_family.proofs.owned.OwnedMessage.decode.Goals as goal

pub invariant_of-result-clause-canonical : goal.invariant_of-result-clause-canonical
invariant_of-result-clause-canonical g c =
    let parts = c.in_ok-append_payload.ensures.reads in
    let same : c.append_payload.new.bytes.items ≡ parts.0 = parts.1 ∙ ap (λ (x : List ℕ). x ++ parts.0) c.in_ok-bytes.ensures.items in
    reading_canonical (g.F.Table.header_len c.args.message_type) (g.F.Table.rows c.args.message_type) c.args.payload.now
    c.append_payload.new.bytes.items (parts.2 0 ∙ ap (λ (x : List ℕ). Some (0, x)) (sym same))

pub returns-clause-reads : goal.returns-clause-reads
returns-clause-reads g c =
    let parts = c.in_ok-append_payload.ensures.reads in
    let same : c.append_payload.new.bytes.items ≡ parts.0 = parts.1 ∙ ap (λ (x : List ℕ). x ++ parts.0) c.in_ok-bytes.ensures.items in
    let size = c.header_len-size.ensures.len in
    let whole = whole_not (g.F.Table.short c.args.message_type) (g.F.Table.header_len c.args.message_type) c.args.payload.now
    (omega (arith, size)) in
    λ t. other_read (g.F.Table.short c.args.message_type) (g.F.Table.header_len c.args.message_type) (reading_by (g.F.Table.rows c.args.message_type)) t
    c.args.payload.now whole ∙ (parts.2 t ∙ ap (λ (x : List ℕ). Some (t, x)) (sym same))
