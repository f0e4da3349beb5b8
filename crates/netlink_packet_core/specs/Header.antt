-- The header of a message: its encoding, its fields in bytes, and its text.
use Rattle.std.specs.Prelude.{◌≡◌, ℕ, ◌+◌, ◌<◌, ◌≤◌, ◌^◌, List, ◌++◌, codes, length, slice_range}
use Rattle.netlink_bytes.specs.Numbers.{number_le, bytes_le}
use Rattle.netlink_bytes.specs.Text.{number_line}
use Rattle.netlink_packet_core.specs.declared.header.NetlinkHeader.{NetlinkHeader}

-- the five fields in order, 16 bytes
abbrev pub header_bytes : NetlinkHeader → List ℕ
header_bytes h =
    bytes_le h.length 4 ++ (bytes_le h.message_type 2
    ++ (bytes_le h.flags 2 ++ (bytes_le h.sequence_number 4 ++ bytes_le h.port_number 4)))

-- each field is within its width
pub record HeaderInRange (h : NetlinkHeader) : Type 0 where
  pub length : h.length < 2 ^ 32
  pub message_type : h.message_type < 2 ^ 16
  pub flags : h.flags < 2 ^ 16
  pub sequence_number : h.sequence_number < 2 ^ 32
  pub port_number : h.port_number < 2 ^ 32

-- bytes begin with this header, whatever follows
pub record IsHeader (bytes : List ℕ) (h : NetlinkHeader) : Type 0 where
  pub rest : List ℕ
  pub whole : bytes ≡ header_bytes h ++ rest
  pub in_range : HeaderInRange h

-- a header of five zeros
abbrev pub default_header : NetlinkHeader
default_header =
    record { length = 0; message_type = 0; flags = 0; sequence_number = 0; port_number = 0 }

-- the integer in the w bytes at an offset
abbrev pub field : ℕ → ℕ → List ℕ → ℕ
field at w bytes = number_le (slice_range bytes at (at + w))

-- the header in the first 16 bytes
abbrev pub header_of : List ℕ → NetlinkHeader
header_of bytes = record {
  length = field 0 4 bytes;
  message_type = field 4 2 bytes;
  flags = field 6 2 bytes;
  sequence_number = field 8 4 bytes;
  port_number = field 12 4 bytes;
}

-- the payload: the bytes from offset 16 up to the length
abbrev pub payload_of : List ℕ → List ℕ
payload_of bytes = slice_range bytes 16 (field 0 4 bytes)

-- the bytes hold a complete frame
pub record HoldsFrame (bytes : List ℕ) : Type 0 where
  pub header : 16 ≤ length bytes
  pub least : 16 ≤ field 0 4 bytes
  pub most : field 0 4 bytes ≤ length bytes

-- the five lines of a header, for printing
abbrev pub header_lines : NetlinkHeader → List ℕ
header_lines h =
    number_line (codes "length ") h.length
    ++ (number_line (codes "type ") h.message_type
    ++ (number_line (codes "flags ") h.flags
    ++ (number_line (codes "sequence ") h.sequence_number
    ++ number_line (codes "port ") h.port_number)))
