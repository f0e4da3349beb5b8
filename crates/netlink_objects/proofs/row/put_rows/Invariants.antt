use Rattle.std.proofs.Common.{◌≡◌, take}
use Rattle.std.specs.List.{fold}
use Rattle.netlink_json.specs.Fields.{written}
use Rattle.netlink_objects.proofs.Loops.{row_step}
use Rattle.netlink_objects.proofs.row.put_rows.Given as goal

-- the rows so far are written
abbrev pub invariant-loop-row : goal.invariant-loop-row
invariant-loop-row l =
    written l.object
    ≡ fold (row_step l.known l.source.header.now l.source.block.block.now) (written l.fn.object)
    (take l.row-index l.rows)
