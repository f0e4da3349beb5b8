-- The protocol of zeros. The payload of type 18 is zeros, and represents their count. The payload
-- of type 19 is a count in 8 bytes; this type is read and never written.
use Rattle.std.specs.Prelude.{◌==◌, ◌^◌, ℕ, Bool, List, Option, Some, None, length, replicate, nat_lt, if◌then◌else◌}
use Rattle.std.specs.List.{list_all}
use Rattle.netlink_packet_core.specs.Numbers.{number_le}
use Rattle.netlink_packet_core.specs.Protocol.{Encoding, Decoding}
use Rattle.netlink_packet_core.specs.declared.header.NetlinkHeader.{NetlinkHeader}
use Rattle.netlink_frame.specs.declared.samples.Zeros.{Zeros}

abbrev pub are_zeros : List ℕ → Bool
are_zeros bytes = list_all (λ b. b == 0) bytes

abbrev pub zeros_bytes : Zeros → List ℕ
zeros_bytes v = replicate v.0 0

-- zeros decode to themselves, a count to that many zeros, and everything else to nothing
abbrev pub zeros_reading : NetlinkHeader → List ℕ → Option (ℕ × List ℕ)
zeros_reading h payload =
    if h.message_type == 18 then (if are_zeros payload then Some (18, payload) else None)
    else if h.message_type == 19
    then (if length payload == 8 then Some (18, replicate (number_le payload) 0) else None)
    else None

abbrev pub zeros_encoding : Encoding Zeros
zeros_encoding = record { type_of = λ _. 18; bytes_of = zeros_bytes }

-- a value is in range if its count fits in 64 bits
abbrev pub zeros_decoding : Decoding Zeros
zeros_decoding = record {
  reading = zeros_reading;
  stands_for = λ v. (18, zeros_bytes v);
  in_range = λ v. nat_lt v.0 (2 ^ 64);
}
