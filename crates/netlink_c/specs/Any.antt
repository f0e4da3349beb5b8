-- The protocol that accepts any bytes: each message type of 16 or greater, with any payload.
use Rattle.std.specs.Prelude.{◌&&◌, ◌^◌, ℕ, Bool, true, false, List, Option, Some, None, codes, nat_le, nat_lt, if◌then◌else◌}
use Rattle.netlink_packet_core.specs.Protocol.{Encoding, Decoding}
use Rattle.netlink_packet_core.specs.declared.header.NetlinkHeader.{NetlinkHeader}
use Rattle.netlink_c.specs.declared.any.AnyMessage.{AnyMessage}
use Rattle.netlink_c.specs.declared.any.AnyError.{AnyError}
use Rattle.netlink_c.specs.declared.any.AnyError.TheVariants.{BelowLeastType, OutOfMemory}

-- whether a sub-protocol may use a message type: it is at least 16 and fits in 16 bits
abbrev pub is_protocol_type : ℕ → Bool
is_protocol_type message_type = nat_le 16 message_type && nat_lt message_type (2 ^ 16)

abbrev pub any_reading : NetlinkHeader → List ℕ → Option (ℕ × List ℕ)
any_reading h payload = if is_protocol_type h.message_type then Some (h.message_type, payload) else
    None

abbrev pub any_encoding : Encoding AnyMessage
any_encoding = record { type_of = λ m. m.kind.number; bytes_of = λ m. m.bytes.items }

abbrev pub any_decoding : Decoding AnyMessage
any_decoding = record {
  reading = any_reading;
  stands_for = λ m. (m.kind.number, m.bytes.items);
  in_range = λ m. nat_lt m.kind.number (2 ^ 16);
}

-- whether an error means that an allocation failed
abbrev pub wants_memory : AnyError → Bool
wants_memory BelowLeastType = false
wants_memory OutOfMemory = true

-- the text of an error
abbrev pub error_text : AnyError → List ℕ
error_text BelowLeastType = codes "the message type is below 16"
error_text OutOfMemory = codes "out of memory"
