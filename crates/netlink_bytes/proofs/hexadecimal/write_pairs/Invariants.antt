use Rattle.std.proofs.Common.{◌≡◌, ◌≤◌, ◌-◌, ◌*◌, length, take}
use Rattle.netlink_bytes.specs.Text.{hex_digits}
use Rattle.netlink_bytes.proofs.hexadecimal.write_pairs.Given as goal

-- the digits of the bytes so far are written
abbrev pub invariant-loop-at : goal.invariant-loop-at
invariant-loop-at l = (take (l.at * 2) l.digits ≡ hex_digits (take l.at l.bytes)) × (l.at ≤ length l.bytes)

abbrev pub decreases-loop-at : goal.decreases-loop-at
decreases-loop-at l = length l.bytes - l.at

abbrev pub invariant-loop-index : goal.invariant-loop-index
invariant-loop-index l = take (l.index * 2) l.digits ≡ hex_digits (take l.index l.bytes)
