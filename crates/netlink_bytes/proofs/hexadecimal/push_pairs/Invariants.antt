use Rattle.std.proofs.Common.{◌≡◌, ◌≤◌, ◌+◌, ◌-◌, ◌*◌, ◌++◌, take, length, string_bytes, string_len, string_capacity}
use Rattle.netlink_bytes.specs.Text.{hex_digits}
use Rattle.netlink_bytes.proofs.hexadecimal.push_pairs.Given as goal

-- the digits of the bytes so far have been appended, and there is room for the others
abbrev pub invariant-loop-byte : goal.invariant-loop-byte
invariant-loop-byte l =
    (string_bytes l.text ≡ string_bytes l.fn.text ++ hex_digits (take l.byte-index l.bytes))
    × (string_len l.text + (length l.bytes - l.byte-index) * 2 ≤ string_capacity l.text)
