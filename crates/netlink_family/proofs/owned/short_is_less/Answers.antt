use Rattle.netlink_family.specs.ShortLaws.{short_parts}
use Rattle.netlink_family.proofs.owned.short_is_less.Goals as goal

pub returns-clause-less : goal.returns-clause-less
returns-clause-less g c =
    (short_parts (g.F.Table.short c.args.message_type) (g.F.Table.header_len c.args.message_type) c.args.payload.now c.requires.short).less

pub returns-clause-some : goal.returns-clause-some
returns-clause-some g c =
    (short_parts (g.F.Table.short c.args.message_type) (g.F.Table.header_len c.args.message_type) c.args.payload.now c.requires.short).some
