-- A message of a family: its type, a fixed header, and attributes.
use Rattle.std.specs.Prelude.{ℕ, Bool, true, false, List, Option, Some, None, bytes_eq, if◌then◌else◌}
use Rattle.netlink_packet_core.specs.Protocol.{Decoding}
use Rattle.netlink_packet_core.specs.declared.header.NetlinkHeader.{NetlinkHeader}
use Rattle.netlink_shapes.specs.Blocks.{ValueReading}
use Rattle.netlink_family.specs.PayloadReading.{payload_reading, short_reading}
use Rattle.netlink_shapes.specs.Shapes.{Row, reading_by}

-- the canonical form of a payload, by its message type
abbrev pub message_reading : (ℕ → Bool) → (ℕ → Bool) → (ℕ → ℕ) → (ℕ → ValueReading) → NetlinkHeader → List ℕ → Option (ℕ × List ℕ)
message_reading is_type short size values h payload =
    if is_type h.message_type
    then short_reading (short h.message_type) (size h.message_type) (values h.message_type) h.message_type payload else None

abbrev pub message_decoding : {I : Type 0} → (I → ℕ × List ℕ) → (ℕ → Bool) → (ℕ → Bool) → (ℕ → ℕ) → (ℕ → ValueReading) → Decoding I
message_decoding stands_for is_type short size values = record {
  reading = message_reading is_type short size values;
  stands_for = stands_for;
  in_range = λ _. true;
}

-- ---- payloads in canonical form

abbrev pub is_encoding : List ℕ → Option (ℕ × List ℕ) → Bool
is_encoding bytes None = false
is_encoding bytes (Some pair) = bytes_eq pair.1 bytes

-- they are read as themselves
abbrev pub is_canonical_payload : ℕ → List Row → List ℕ → Bool
is_canonical_payload size rows bytes = is_encoding bytes (payload_reading size (reading_by rows) 0 bytes)
