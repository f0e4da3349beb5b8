-- When bytes begin with the frame of a message.
use Rattle.std.specs.Prelude.{◌≡◌, ◌+◌, ◌⊎◌, ℕ, ℤ, pos, List, [], ◌++◌, Some, length, IsTrue}
use Rattle.netlink_bytes.specs.Numbers.{IsSigned}
use Rattle.netlink_packet_core.specs.Header.{header_bytes, HeaderInRange}
use Rattle.netlink_packet_core.specs.Payload.{code_bytes, raw_code}
use Rattle.netlink_packet_core.specs.Protocol.{Decoding, IsOwnType}
use Rattle.netlink_packet_core.specs.declared.header.NetlinkHeader.{NetlinkHeader}
use Rattle.netlink_packet_core.specs.declared.done.DoneMessage.{DoneMessage}
use Rattle.netlink_packet_core.specs.declared.error.ErrorMessage.{ErrorMessage}
use Rattle.netlink_packet_core.specs.declared.payload.NetlinkPayload.{NetlinkPayload}
use Rattle.netlink_packet_core.specs.declared.payload.NetlinkPayload.TheVariants.{Done, Error, Noop, Overrun, InnerMessage}
use Rattle.netlink_packet_core.specs.declared.message.NetlinkMessage.{NetlinkMessage}

-- a payload is a 4-byte code and then the rest
pub record IsCodeAndRest (payload : List ℕ) (code : ℤ) (rest : List ℕ) : Type 0 where
  pub whole : payload ≡ code_bytes code ++ rest
  pub in_range : IsSigned 4 code

-- an empty payload means code 0 and no bytes
abbrev pub IsDone : List ℕ → DoneMessage → Type 0
IsDone payload m =
    ((payload ≡ []) × (m.code ≡ pos 0) × (m.extended_ack.items ≡ []))
    ⊎ IsCodeAndRest payload m.code m.extended_ack.items

abbrev pub IsError : List ℕ → ErrorMessage → Type 0
IsError payload m = IsCodeAndRest payload (raw_code m.code) m.header.items

-- a header, the bytes of a payload and the decoded payload belong together
abbrev pub Body : {I : Type 0} → Decoding I → NetlinkHeader → List ℕ → NetlinkPayload I → Type 0
Body decoding h payload Noop = h.message_type ≡ 1
Body decoding h payload (Error m) = (h.message_type ≡ 2) × IsError payload m
Body decoding h payload (Done m) = (h.message_type ≡ 3) × IsDone payload m
Body decoding h payload (Overrun bytes) = (h.message_type ≡ 4) × (bytes.items ≡ payload)
Body decoding h payload (InnerMessage v) =
    IsOwnType h.message_type × IsTrue (decoding.in_range v)
    × (decoding.reading h payload ≡ Some (decoding.stands_for v))

-- bytes begin with this header and this payload, whatever follows
pub record Begins (bytes : List ℕ) (h : NetlinkHeader) (payload : List ℕ) : Type 0 where
  pub rest : List ℕ
  pub whole : bytes ≡ header_bytes h ++ (payload ++ rest)
  pub size : h.length ≡ 16 + length payload
  pub in_range : HeaderInRange h

-- bytes begin with the frame of a message, whatever follows
abbrev pub Frame : {I : Type 0} → Decoding I → List ℕ → NetlinkMessage I → Type 0
Frame decoding bytes m =
    (payload : List ℕ) × Begins bytes m.header payload × Body decoding m.header payload m.payload

-- two payloads have the same content; inner ones represent the same type and encoding
abbrev pub SamePayload : {I : Type 0} → Decoding I → NetlinkPayload I → NetlinkPayload I → Type 0
SamePayload decoding Noop Noop = Unit {0}
SamePayload decoding (Error m) (Error n) =
    (raw_code m.code ≡ raw_code n.code) × (m.header.items ≡ n.header.items)
SamePayload decoding (Done m) (Done n) =
    (m.code ≡ n.code) × (m.extended_ack.items ≡ n.extended_ack.items)
SamePayload decoding (Overrun a) (Overrun b) = a.items ≡ b.items
SamePayload decoding (InnerMessage v) (InnerMessage w) =
    decoding.stands_for v ≡ decoding.stands_for w
SamePayload decoding _ _ = ⊥
