-- What a protocol encodes and decodes, and when it is lawful.
use Rattle.std.specs.Prelude.{◌≡◌, ◌≢◌, ◌+◌, ◌<◌, ◌≤◌, ◌^◌, ℕ, Bool, List, Option, Some, IsTrue, drop, length}
use Rattle.netlink_packet_core.specs.declared.header.NetlinkHeader.{NetlinkHeader}

-- the encoding of a value: its message type and its bytes
pub record Encoding (I : Type 0) : Type 0 where
  pub type_of : I → ℕ
  pub bytes_of : I → List ℕ

-- what is decoded: the (type, bytes) pair that a header and a payload give, if any; the (type,
-- bytes) pair that a value represents; and which values hold numbers within their widths
pub record Decoding (I : Type 0) : Type 0 where
  pub reading : NetlinkHeader → List ℕ → Option (ℕ × List ℕ)
  pub stands_for : I → ℕ × List ℕ
  pub in_range : I → Bool

-- a type of the protocol's own: none of the four that every protocol shares
abbrev pub IsOwnType : ℕ → Type 0
IsOwnType t = (t ≢ 1) × (t ≢ 2) × (t ≢ 3) × (t ≢ 4)

-- a (type, bytes) pair that reads back as itself under every header with that type and the matching
-- length
pub record IsLawful {I : Type 0} (decoding : Decoding I) (pair : ℕ × List ℕ) : Type 0 where
  pub own_type : IsOwnType pair.0
  pub width : pair.0 < 2 ^ 16
  pub again : (h : NetlinkHeader) → h.message_type ≡ pair.0 → h.length ≡ 16 + length pair.1
      → decoding.reading h pair.1 ≡ Some pair

-- bytes are the frame of what a header and a payload decode to, but for the 16 bytes of its header,
-- which may have any value; the message type is the header's
pub record IsNormalFrame {I : Type 0} (decoding : Decoding I) (h : NetlinkHeader)
    (payload frame : List ℕ) : Type 0 where
  pub value : I
  pub in_range : IsTrue (decoding.in_range value)
  pub reads : decoding.reading h payload ≡ Some (decoding.stands_for value)
  pub message_type : (decoding.stands_for value).0 ≡ h.message_type
  pub room : 16 ≤ length frame
  pub encoded : drop 16 frame ≡ (decoding.stands_for value).1
