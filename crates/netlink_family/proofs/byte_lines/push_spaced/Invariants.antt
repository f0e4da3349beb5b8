use Rattle.std.proofs.Common.{◌≡◌, ◌++◌, take, string_bytes}
use Rattle.netlink_blocks.specs.Show.{each_of}
use Rattle.netlink_family.specs.ByteLines.{spaced}
use Rattle.netlink_family.proofs.byte_lines.push_spaced.Given as goal

abbrev pub invariant-loop-byte : goal.invariant-loop-byte
invariant-loop-byte l = string_bytes l.text ≡ string_bytes l.fn.text ++ each_of spaced (take l.byte-index l.bytes)
