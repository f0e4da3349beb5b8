-- The encoding of a payload.
use Rattle.std.specs.Prelude.{ℕ, ℤ, pos, List, [], ◌++◌, Option, Some, None, IsTrue, codes, decimal, unsigned_abs}
use Rattle.netlink_bytes.specs.Numbers.{IsSigned, bytes_le, unsigned}
use Rattle.netlink_bytes.specs.NonZero.{number_of}
use Rattle.netlink_bytes.specs.declared.nonzero.NonZeroI32.{NonZeroI32}
use Rattle.netlink_packet_core.specs.Protocol.{Encoding, Decoding}
use Rattle.netlink_packet_core.specs.declared.payload.NetlinkPayload.{NetlinkPayload}
use Rattle.netlink_packet_core.specs.declared.payload.NetlinkPayload.TheVariants.{Done, Error, Noop, Overrun, InnerMessage}

-- the four bytes of a code
abbrev pub code_bytes : ℤ → List ℕ
code_bytes code = bytes_le (unsigned 4 code) 4

-- the code as it is on the wire, 0 if there is none
abbrev pub raw_code : Option NonZeroI32 → ℤ
raw_code None = pos 0
raw_code (Some code) = number_of code

-- what is printed for a code: its errno
abbrev pub errno_text : ℤ → List ℕ
errno_text code = codes "os error " ++ decimal (unsigned_abs code)

-- the message type of a payload
abbrev pub payload_type : {I : Type 0} → Encoding I → NetlinkPayload I → ℕ
payload_type encoding (Done m) = 3
payload_type encoding (Error m) = 2
payload_type encoding Noop = 1
payload_type encoding (Overrun bytes) = 4
payload_type encoding (InnerMessage v) = encoding.type_of v

-- the encoding of a payload
abbrev pub payload_bytes : {I : Type 0} → Encoding I → NetlinkPayload I → List ℕ
payload_bytes encoding (Done m) = code_bytes m.code ++ m.extended_ack.items
payload_bytes encoding (Error m) = code_bytes (raw_code m.code) ++ m.header.items
payload_bytes encoding Noop = []
payload_bytes encoding (Overrun bytes) = bytes.items
payload_bytes encoding (InnerMessage v) = encoding.bytes_of v

-- a code is within its width
abbrev pub PayloadInRange : {I : Type 0} → NetlinkPayload I → Type 0
PayloadInRange (Done m) = IsSigned 4 m.code
PayloadInRange (Error m) = IsSigned 4 (raw_code m.code)
PayloadInRange Noop = Unit {0}
PayloadInRange (Overrun bytes) = Unit {0}
PayloadInRange (InnerMessage v) = Unit {0}

-- an inner value passes its protocol's own test
abbrev pub InnerInRange : {I : Type 0} → Decoding I → NetlinkPayload I → Type 0
InnerInRange decoding (Done m) = Unit {0}
InnerInRange decoding (Error m) = Unit {0}
InnerInRange decoding Noop = Unit {0}
InnerInRange decoding (Overrun bytes) = Unit {0}
InnerInRange decoding (InnerMessage v) = IsTrue (decoding.in_range v)
