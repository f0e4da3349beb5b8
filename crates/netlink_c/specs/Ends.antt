-- Frames and nests that are begun and ended in a buffer.
use Rattle.std.specs.Prelude.{◌≡◌, ℕ, ◌+◌, ◌-◌, ◌%◌, ◌^◌, ◌<◌, ◌≤◌, List, ◌++◌, length, replicate}
use Rattle.netlink_packet_core.specs.Attribute.{padding}
use Rattle.netlink_packet_core.specs.Header.{header_bytes}
use Rattle.netlink_packet_core.specs.Storage.{put_at}
use Rattle.netlink_packet_core.specs.declared.header.NetlinkHeader.{NetlinkHeader}

-- the cursor is in the buffer, at least `least` bytes after the start, at a distance that is a
-- multiple of 4
pub record IsStretch (room start cursor least : ℕ) : Type 0 where
  pub inside : cursor ≤ room
  pub enough : start + least ≤ cursor
  pub whole : (cursor - start) % 4 ≡ 0

-- what ending a frame or a nest returns, if its length field counts the bytes from the start up to
-- the cursor and must be less than a bound
pub record IsEndResult (least bound room start cursor answer : ℕ) : Type 0 where
  pub no_place : (IsStretch room start cursor least → ⊥) → answer ≡ 34
  pub too_long : IsStretch room start cursor least → bound ≤ cursor - start → answer ≡ 33
  pub done : IsStretch room start cursor least → cursor - start < bound → answer ≡ 0

-- the header with the length of itself and of this many bytes
abbrev pub begun_header : NetlinkHeader → ℕ → NetlinkHeader
begun_header h size = record h { length = 16 + size }

-- that header, and then the bytes
abbrev pub frame_bytes : NetlinkHeader → List ℕ → List ℕ
frame_bytes h fixed = header_bytes (begun_header h (length fixed)) ++ fixed

-- the size of those with their padding
abbrev pub begun_size : ℕ → ℕ
begun_size size = 16 + size + padding size

-- what beginning a frame returns: `TOO_LONG`, `NO_ROOM` or 0
pub record IsPutFrameResult (size room at answer : ℕ) : Type 0 where
  pub too_long : 2 ^ 32 ≤ 16 + size → answer ≡ 33
  pub no_room : 16 + size < 2 ^ 32 → room < at + begun_size size → answer ≡ 8
  pub done : 16 + size < 2 ^ 32 → at + begun_size size ≤ room → answer ≡ 0

-- the frame with its padding is in the buffer at the old cursor, no other byte is changed, and the
-- cursor has moved past it
pub record PutsFrame (h : NetlinkHeader) (fixed buffer : List ℕ) (at : ℕ) (new : List ℕ)
    (next : ℕ) : Type 0 where
  pub bytes : new ≡ put_at buffer at (frame_bytes h fixed ++ replicate (padding (length fixed)) 0)
  pub cursor : next ≡ at + begun_size (length fixed)
