-- A datagram as frames one after another.
use Rattle.std.specs.Prelude.{ℕ, ◌<◌, ◌≤◌, ◌≡◌, ◌⊎◌, List, [], ◌∷◌, ◌++◌, false, length, replicate, take, Option}
use Rattle.netlink_attributes.specs.Attribute.{padding}
use Rattle.netlink_bytes.specs.Walks.{WalksAs}
use Rattle.netlink_bytes.specs.declared.error.DecodeError.{DecodeError}
use Rattle.netlink_packet_core.specs.Header.{field}
use Rattle.netlink_packet_core.specs.Refusal.{IsFrameFault}

-- The bytes are the frame, its padding and then the rest. Padding may be any bytes, and it may be
-- incomplete only if the bytes end within it.
pub record StartsFrame (bytes frame rest : List ℕ) : Type 0 where
  pub size : field 0 4 frame ≡ length frame
  pub least : 16 ≤ length frame
  pub gap : List ℕ
  pub whole : bytes ≡ frame ++ (gap ++ rest)
  pub gap_size : (length gap ≡ padding (length frame))
      ⊎ ((length gap < padding (length frame)) × (rest ≡ []))

-- walking the bytes yields these frames, one after another, and then the end or one error
abbrev pub FrameWalk : List ℕ → List (List ℕ) → Option DecodeError → Type 0
FrameWalk = WalksAs StartsFrame (IsFrameFault false)

-- the frame that the bytes begin with, if they hold a complete one
abbrev pub frame_of : List ℕ → List ℕ
frame_of bytes = take (field 0 4 bytes) bytes

-- the bytes are one frame and nothing else: their length field is their size
pub record IsWholeFrame (frame : List ℕ) : Type 0 where
  pub size : field 0 4 frame ≡ length frame
  pub least : 16 ≤ length frame

-- the frame as it is in a datagram, padded with zeros
abbrev pub padded_frame : List ℕ → List ℕ
padded_frame frame = frame ++ replicate (padding (length frame)) 0

-- the frames as they are written, one after another, each padded with zeros
abbrev pub datagram_of : List (List ℕ) → List ℕ
datagram_of [] = []
datagram_of (frame ∷ more) = padded_frame frame ++ datagram_of more
