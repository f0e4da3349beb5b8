use Rattle.std.proofs.Common.{◌≡◌, true, ap, ◌∙◌}
use Rattle.netlink_family.specs.Message.{is_canonical_payload}
use Rattle.netlink_shapes.specs.Pushing.{has_room}
use Rattle.netlink_family.proofs.CanonicalPayloads.{either, push_canonical}
use Rattle.netlink_family.proofs.owned.OwnedMessage.append_fitting.Goals as goal

pub invariant_of-self-clause-canonical : goal.invariant_of-self-clause-canonical
invariant_of-self-clause-canonical g c =
    let has : has_room (g.F.Table.header_len c.args.self.now.message_type) c.args.self.now.bytes.items c.args.value.now ≡ true = c.requires.room in
    either c.append_value.result _ _
    (is_canonical_payload (g.F.Table.header_len c.args.self.now.message_type) (g.F.Table.rows c.args.self.now.message_type) c.append_value.new.block.items ≡ true)
    c.append_value.ensures.ok c.append_value.ensures.err
    (λ writes. push_canonical (g.F.Table.header_len c.args.self.now.message_type) (g.F.Table.rows c.args.self.now.message_type) c.args.self.now.bytes.items c.append_value.new.block.items
    c.args.kind c.args.value.now c.args.self.now.canonical c.ranges.kind.fits c.requires.shape c.requires.late has writes)
    (λ e q. ap (is_canonical_payload (g.F.Table.header_len c.args.self.now.message_type) (g.F.Table.rows c.args.self.now.message_type)) q ∙ c.args.self.now.canonical)
