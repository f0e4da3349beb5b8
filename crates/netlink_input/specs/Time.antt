-- The times of packets.
use Rattle.std.specs.Prelude.{◌==◌, ◌%◌, ◌*◌, ◌/◌, ◌+◌, ◌-◌, ◌^◌, ℕ, Bool, List, length, Option, None, Some, nat_le, nat_lt, if◌then◌else◌}
use Rattle.netlink_input.specs.Pcap.{number_in}
use Rattle.netlink_input.specs.declared.pcap.Order.{Order}
use Rattle.netlink_input.specs.declared.time.Time.{Time}

-- the time in the header of a packet of a pcap file: seconds, and nanoseconds or microseconds
abbrev pub pcap_time : Order → Bool → List ℕ → Option Time
pcap_time order nano packet =
    if nat_lt (length packet) 16 then None
    else Some (record {
      seconds = number_in order 0 4 packet;
      micros = if nano then number_in order 4 4 packet / 1000 else number_in order 4 4 packet;
    })

-- a power of ten up to 13, and 0 for any other
abbrev pub tens_of : ℕ → ℕ
tens_of power =
    if power == 0 then 1
    else if power == 1 then 10
    else if power == 2 then 100
    else if power == 3 then 1000
    else if power == 4 then 10000
    else if power == 5 then 100000
    else if power == 6 then 1000000
    else if power == 7 then 10000000
    else if power == 8 then 100000000
    else if power == 9 then 1000000000
    else if power == 10 then 10000000000
    else if power == 11 then 100000000000
    else if power == 12 then 1000000000000
    else if power == 13 then 10000000000000
    else 0

-- the number of units in a second by the resolution of an interface (`if_tsresol`): a power of ten up to 13, or of two
-- up to 44, if its highest bit is set; 0 for any other
unfoldable pub unit_of : ℕ → ℕ
unit_of resolution =
    if nat_le 128 resolution then (if nat_le resolution 172 then 2 ^ (resolution - 128) else 0)
    else tens_of resolution

-- the time of a packet that an interface counts so
abbrev pub clock_time : ℕ → ℕ → Option Time
clock_time resolution count =
    if unit_of resolution == 0 then None
    else Some (record {
      seconds = count / unit_of resolution;
      micros = count % unit_of resolution * 1000000 / unit_of resolution;
    })
