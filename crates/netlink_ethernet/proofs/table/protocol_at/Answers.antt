use Rattle.std.proofs.Common.{◌≡◌, ◌<◌, length, refl}
use Rattle.std.proofs.lemmas.Option.{slice_get-get_or}
use Rattle.netlink_ethernet.specs.declared.table.TheConstants.{PROTOCOLS}
use Rattle.netlink_ethernet.specs.Table.{named}
use Rattle.netlink_ethernet.proofs.table.protocol_at.Goals as goal

row_at : named ≡ PROTOCOLS → goal.returns
row_at same c =
    let row : c.args.index < length PROTOCOLS = c.requires in
    rw same (slice_get-get_or PROTOCOLS c.args.index _ row)

-- the constant holds the table's rows, which is computed here
pub returns : goal.returns
unfolding named
returns c = row_at refl c
