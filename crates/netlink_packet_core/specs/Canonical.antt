-- The one canonical frame of a message, and a separate grammar for what is canonical.
use Rattle.std.specs.Prelude.{◌≡◌, ◌+◌, ◌<◌, ◌≤◌, ◌^◌, ◌⊎◌, ℕ, Bool, List, ◌++◌, Some, length, drop}
use Rattle.netlink_bytes.specs.declared.error.DecodeError.{DecodeError}
use Rattle.netlink_bytes.specs.declared.error.DecodeError.TheVariants.{TooLong, OutOfMemory}
use Rattle.netlink_packet_core.specs.Header.{header_bytes, header_of, field, HeaderInRange}
use Rattle.netlink_packet_core.specs.Payload.{payload_bytes, payload_type, PayloadInRange}
use Rattle.netlink_packet_core.specs.Protocol.{Encoding, Decoding, IsOwnType}
use Rattle.netlink_packet_core.specs.Frame.{Frame}
use Rattle.netlink_packet_core.specs.Refusal.{IsRefusal}
use Rattle.netlink_packet_core.specs.declared.message.NetlinkMessage.{NetlinkMessage}

-- a message whose length fits in 32 bits, with header fields and a code within their widths
pub record Fits {I : Type 0} (encoding : Encoding I) (m : NetlinkMessage I) : Type 0 where
  pub size : 16 + length (payload_bytes encoding m.payload) < 2 ^ 32
  pub header : HeaderInRange m.header
  pub payload : PayloadInRange m.payload

-- the message with that length and with its payload's type in the header
abbrev pub finalized : {I : Type 0} → Encoding I → NetlinkMessage I → NetlinkMessage I
finalized encoding m =
    record m {
      header = record m.header {
        length = 16 + length (payload_bytes encoding m.payload);
        message_type = payload_type
            encoding m.payload;
      };
    }

-- the encoding of a message
abbrev pub canonical_frame : {I : Type 0} → Encoding I → NetlinkMessage I → List ℕ
canonical_frame encoding m =
    header_bytes (finalized encoding m).header ++ payload_bytes encoding m.payload

-- bytes that are a canonical frame: their length field is their size, type 1 has no payload, types
-- 2 and 3 have a code, and a payload of any other type except 4 reads as itself
pub record IsCanonicalFrame {I : Type 0} (decoding : Decoding I) (bytes : List ℕ) : Type 0 where
  pub header : 16 ≤ length bytes
  pub whole : field 0 4 bytes ≡ length bytes
  pub noop : field 4 2 bytes ≡ 1 → length bytes ≡ 16
  pub error : field 4 2 bytes ≡ 2 → 20 ≤ length bytes
  pub done : field 4 2 bytes ≡ 3 → 20 ≤ length bytes
  pub own : IsOwnType (field 4 2 bytes)
      → decoding.reading (header_of bytes) (drop 16 bytes) ≡ Some (field 4 2 bytes, drop 16 bytes)

-- a message whose length does not fit in 32 bits
abbrev pub IsTooLong : {I : Type 0} → Encoding I → NetlinkMessage I → Type 0
IsTooLong encoding m = 2 ^ 32 ≤ 16 + length (payload_bytes encoding m.payload)

-- the error for the frame of a message that is too long: `TooLong`, or `OutOfMemory` from decoding
-- it
abbrev pub SaysTooLong : {I E : Type 0} → Decoding I → (E → Bool) → List ℕ → DecodeError → Type 0
SaysTooLong decoding wants_memory bytes e =
    (e ≡ TooLong) ⊎ ((e ≡ OutOfMemory) × IsRefusal decoding wants_memory bytes e)

-- why bytes have no canonical frame: they are rejected, or they are the frame of a message that is
-- too long, or the allocation for the canonical frame of a message that fits failed
abbrev pub IsNormalizeFault : {I E : Type 0} → Encoding I → Decoding I → (E → Bool) → List ℕ
    → DecodeError → Type 0
IsNormalizeFault {I} encoding decoding wants_memory bytes e =
    IsRefusal decoding wants_memory bytes e
    ⊎ (((e ≡ TooLong) × ((m : NetlinkMessage I) × Frame decoding bytes m × IsTooLong encoding m))
    ⊎ ((e ≡ OutOfMemory) × ((m : NetlinkMessage I) × Frame decoding bytes m × Fits encoding m)))
