-- What is written at the start of a buffer.
use Rattle.std.specs.Prelude.{◌≡◌, ◌+◌, ◌<◌, ◌≤◌, ℕ, List, take, drop, length}
use Rattle.netlink_packet_core.specs.Canonical.{Fits, canonical_frame}
use Rattle.netlink_packet_core.specs.Frame.{Frame}
use Rattle.netlink_packet_core.specs.Storage.{put_at}
use Rattle.netlink_packet_core.specs.declared.message.NetlinkMessage.{NetlinkMessage}
use Rattle.netlink_c.specs.Any.{any_decoding, any_encoding}
use Rattle.netlink_c.specs.declared.any.AnyMessage.{AnyMessage}

-- `text` is at the start of the buffer, and the rest is unchanged; or there is no room, and the
-- buffer is unchanged. In both cases `size` is the size of `text`.
pub record CopiesOut (text buffer new : List ℕ) (size answer : ℕ) : Type 0 where
  pub counted : size ≡ length text
  pub written : length text ≤ length buffer → (answer ≡ 0) × (take size new ≡ text)
      × (drop size new ≡ drop size buffer)
  pub no_room : length buffer < length text → (answer ≡ 8) × (new ≡ buffer)

-- the same for the canonical frame of a message that fits, and whose frame is at the start of the
-- bytes
abbrev pub FrameCopiedOut : List ℕ → List ℕ → List ℕ → ℕ → ℕ → Type 0
FrameCopiedOut bytes buffer new size answer =
    (m : NetlinkMessage AnyMessage) × Frame any_decoding bytes m × Fits any_encoding m
    × CopiesOut (canonical_frame any_encoding m) buffer new size answer

-- the text ends at `end` if it starts at this offset; if the buffer has room up to there, the text
-- is there, and the rest is unchanged
pub record AddsAt (text : List ℕ) (at : ℕ) (buffer new : List ℕ) (end : ℕ) : Type 0 where
  pub ends : end ≡ at + length text
  pub written : end ≤ length buffer → new ≡ put_at buffer at text
  pub size : length new ≡ length buffer
