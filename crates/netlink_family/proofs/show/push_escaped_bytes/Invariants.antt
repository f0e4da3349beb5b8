use Rattle.std.proofs.Common.{◌≡◌, ◌++◌, take, string_bytes}
use Rattle.netlink_blocks.specs.Show.{each_of, escaped}
use Rattle.netlink_family.proofs.show.push_escaped_bytes.Given as goal

abbrev pub invariant-loop-byte : goal.invariant-loop-byte
invariant-loop-byte l = string_bytes l.text ≡ string_bytes l.fn.text ++ each_of escaped (take l.byte-index l.bytes)
