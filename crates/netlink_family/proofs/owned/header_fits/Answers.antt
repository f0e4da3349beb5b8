use Rattle.netlink_family.specs.CanonicalPayloadLaws.{canonical_long}
use Rattle.netlink_family.proofs.owned.header_fits.Goals as goal

pub returns : goal.returns
returns g c = canonical_long (g.F.Table.header_len c.args.message.now.message_type) (g.F.Table.rows c.args.message.now.message_type) c.args.message.now.bytes.items c.args.message.now.canonical
