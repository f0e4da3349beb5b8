use Rattle.std.proofs.Common.{ap, arith, ◌∷◌, ◌∙◌, []}
use Rattle.netlink_family.specs.Message.{is_canonical_payload}
use Rattle.netlink_family.specs.CanonicalPayloadLaws.{canonical_long}
use Rattle.netlink_family.proofs.CanonicalPayloads.{byte_set, text_canonical}
use Rattle.netlink_family.proofs.owned.OwnedMessage.set_u8.Goals as goal

pub invariant_of-self-clause-canonical : goal.invariant_of-self-clause-canonical
invariant_of-self-clause-canonical g c =
    let m = c.args.self.now in
    let size = g.F.Table.header_len m.message_type in
    let rows = g.F.Table.rows m.message_type in
    let long = canonical_long size rows m.bytes.items m.canonical in
    let inside = c.requires.inside in
    ap (is_canonical_payload size rows) (byte_set m.bytes.items c.args.field.1 c.args.value (omega (arith, long, inside)))
    ∙ text_canonical size rows m.bytes.items c.args.field.1 (c.args.value ∷ []) m.canonical inside

pub returns-clause-written : goal.returns-clause-written
returns-clause-written g c =
    let m = c.args.self.now in
    let long = canonical_long (g.F.Table.header_len m.message_type) (g.F.Table.rows m.message_type) m.bytes.items m.canonical in
    let inside = c.requires.inside in
    byte_set m.bytes.items c.args.field.1 c.args.value (omega (arith, long, inside))
