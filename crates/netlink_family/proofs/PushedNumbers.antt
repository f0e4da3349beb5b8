-- std's bytes of a number that is pushed are those of `Numbers`.
use Rattle.netlink_packet_core.specs.NumberBytes.{bytes_be_2, bytes_be_4, bytes_be_8, bytes_le_2, bytes_le_4, bytes_le_8, unsigned_4, unsigned_8}

pub ruleset pushed_numbers = (
  bytes_be_2,
  bytes_be_4,
  bytes_be_8,
  bytes_le_2,
  bytes_le_4,
  bytes_le_8,
  unsigned_4,
  unsigned_8,
)
