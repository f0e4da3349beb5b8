use Rattle.std.proofs.Common.{◌≡◌, ◌+◌, ◌*◌, take}
use Rattle.netlink_packet_core.specs.Storage.{put_at}
use Rattle.netlink_packet_core.specs.Text.{hex_digits}
use Rattle.netlink_c.proofs.describe.put_pairs.Given as goal

-- the digits of the bytes so far are written
abbrev pub invariant-loop-byte : goal.invariant-loop-byte
invariant-loop-byte l =
    (l.end ≡ l.at + l.byte-index * 2) × (l.buffer ≡ put_at l.fn.buffer l.at (hex_digits (take l.byte-index l.bytes)))
