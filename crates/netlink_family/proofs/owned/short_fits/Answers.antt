use Rattle.netlink_family.specs.ShortLaws.{cut_fits}
use Rattle.netlink_family.proofs.owned.short_fits.Goals as goal

pub returns : goal.returns
returns g c =
    let m = c.args.message.now in
    cut_fits (g.F.Table.short m.message_type) (g.F.Table.header_len m.message_type) m.short m.bytes.items m.cut
