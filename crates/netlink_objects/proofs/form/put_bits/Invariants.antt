use Rattle.std.proofs.Common.{◌≡◌, take}
use Rattle.std.specs.List.{fold}
use Rattle.netlink_json.specs.Fields.{items_written}
use Rattle.netlink_objects.proofs.Loops.{bit_step}
use Rattle.netlink_objects.proofs.form.put_bits.Given as goal

-- the names so far are written
abbrev pub invariant-loop-bit : goal.invariant-loop-bit
invariant-loop-bit l =
    items_written l.items ≡ fold (bit_step l.number) (items_written l.fn.items) (take l.bit-index l.names)
