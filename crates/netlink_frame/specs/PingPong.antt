-- The ping-pong protocol: types 18 and 20, each with any bytes.
use Rattle.std.specs.Prelude.{◌==◌, ℕ, Bool, true, false, List, Option, Some, None, codes, if◌then◌else◌}
use Rattle.netlink_packet_core.specs.Protocol.{Encoding, Decoding}
use Rattle.netlink_packet_core.specs.declared.header.NetlinkHeader.{NetlinkHeader}
use Rattle.netlink_frame.specs.declared.ping_pong.PingPongMessage.{PingPongMessage}
use Rattle.netlink_frame.specs.declared.ping_pong.PingPongMessage.TheVariants.{Ping, Pong}
use Rattle.netlink_frame.specs.declared.ping_pong.DeserializeError.{DeserializeError}
use Rattle.netlink_frame.specs.declared.ping_pong.DeserializeError.TheVariants.{InvalidType, OutOfMemory}

abbrev pub ping_pong_type : PingPongMessage → ℕ
ping_pong_type (Ping bytes) = 18
ping_pong_type (Pong bytes) = 20

abbrev pub ping_pong_bytes : PingPongMessage → List ℕ
ping_pong_bytes (Ping bytes) = bytes.items
ping_pong_bytes (Pong bytes) = bytes.items

-- a payload of either type decodes to itself, and one of any other type to nothing
abbrev pub ping_pong_reading : NetlinkHeader → List ℕ → Option (ℕ × List ℕ)
ping_pong_reading h payload =
    if h.message_type == 18 then Some (18, payload) else if h.message_type == 20 then Some
    (20, payload) else None

abbrev pub ping_pong_encoding : Encoding PingPongMessage
ping_pong_encoding = record { type_of = ping_pong_type; bytes_of = ping_pong_bytes }

-- every value is in range
abbrev pub ping_pong_decoding : Decoding PingPongMessage
ping_pong_decoding = record {
  reading = ping_pong_reading;
  stands_for = λ v. (ping_pong_type v, ping_pong_bytes v);
  in_range = λ _. true;
}

-- whether an error means that an allocation failed
abbrev pub wants_memory : DeserializeError → Bool
wants_memory InvalidType = false
wants_memory OutOfMemory = true

-- the text of an error
abbrev pub error_text : DeserializeError → List ℕ
error_text InvalidType = codes "invalid ping-pong message: invalid message type"
error_text OutOfMemory = codes "out of memory"
