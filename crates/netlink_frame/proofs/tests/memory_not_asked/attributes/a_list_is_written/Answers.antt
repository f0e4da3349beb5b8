use Rattle.std.proofs.Common.{arith}
use Rattle.netlink_packet_core.specs.Numbers.{bytes_le}
use Rattle.netlink_frame.proofs.tests.memory_not_asked.attributes.a_list_is_written.Goals as goal

pub buffer_len-requires : goal.buffer_len-requires
unfolding bytes_le
buffer_len-requires g c = record { in_size = omega arith }
