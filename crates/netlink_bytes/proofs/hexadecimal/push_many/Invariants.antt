use Rattle.std.proofs.Common.{◌≡◌, ◌≤◌, ◌+◌, ◌-◌, ◌*◌, ◌++◌, length, string_bytes, string_capacity, string_len, take}
use Rattle.netlink_bytes.specs.Text.{hex_digits}
use Rattle.netlink_bytes.proofs.hexadecimal.push_many.Given as goal

-- the digits of the bytes so far have been appended, and there is room for the others
abbrev pub invariant-loop-at : goal.invariant-loop-at
invariant-loop-at l =
    (string_bytes l.text ≡ string_bytes l.fn.text ++ hex_digits (take l.at l.bytes))
    × (l.at ≤ length l.bytes)
    × (string_len l.text + (length l.bytes - l.at) * 2 ≤ string_capacity l.text)

abbrev pub decreases-loop-at : goal.decreases-loop-at
decreases-loop-at l = length l.bytes - l.at
