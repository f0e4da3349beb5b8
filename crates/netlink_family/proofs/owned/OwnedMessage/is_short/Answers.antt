use Rattle.std.proofs.Common.{sym}
use Rattle.netlink_family.specs.CanonicalPayloadLaws.{canonical_long}
use Rattle.netlink_family.specs.ShortLaws.{sent_short}
use Rattle.netlink_family.proofs.owned.OwnedMessage.is_short.Goals as goal

pub returns : goal.returns
returns g c =
    let m = c.args.self.now in
    sym (sent_short (g.F.Table.short m.message_type) (g.F.Table.header_len m.message_type) m.short m.bytes.items
    (canonical_long (g.F.Table.header_len m.message_type) (g.F.Table.rows m.message_type) m.bytes.items m.canonical) m.cut)
