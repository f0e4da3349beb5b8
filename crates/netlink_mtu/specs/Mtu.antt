-- The MTU in a link message: the value of its first attribute of kind 4, in 4 bytes.
use Rattle.std.specs.Prelude.{◌≡◌, ◌<◌, ◌⊎◌, false, ℕ, List, ◌++◌, Option, length, take, drop}
use Rattle.std.specs.Int.{w32, to_le_bytes}
use Rattle.netlink_packet_core.specs.Attribute.{Attribute}
use Rattle.netlink_packet_core.specs.DecodeError.{DecodeError}
use Rattle.netlink_packet_core.specs.Header.{payload_of}
use Rattle.netlink_packet_core.specs.Kinds.{HasNone, IsFirst}
use Rattle.netlink_packet_core.specs.Places.{HasValueOf, IsWritten}
use Rattle.netlink_packet_core.specs.Refusal.{IsFrameFault}
use Rattle.netlink_packet_core.specs.Storage.{put_at}
use Rattle.netlink_packet_core.specs.Views.{masked}
use Rattle.netlink_packet_core.specs.Walk.{Walk}

-- new is old with this MTU as the value of the first attribute of kind 4
pub record IsMtuSetIn (old : List ℕ) (mtu : ℕ) (new : List ℕ) : Type 0 where
  pub index : ℕ
  pub first : (all : List Attribute) (fault : Option DecodeError) → Walk old all fault
      → IsFirst masked all 4 index
  pub value : IsWritten old index (to_le_bytes w32 mtu) new

-- a block has no attribute of kind 4, or the value of the first one does not have 4 bytes
abbrev pub HasNoMtuIn : List ℕ → Type 0
HasNoMtuIn block =
    (all : List Attribute) (fault : Option DecodeError) → Walk block all fault
    → HasNone masked all 4
    ⊎ ((index : ℕ) × IsFirst masked all 4 index × ¬ (HasValueOf all index 4))

-- the attributes of a link message follow the 16 bytes of `struct ifinfomsg`
abbrev pub block_of : List ℕ → List ℕ
block_of frame = drop 16 (payload_of frame)

-- the frame with this block in place of its own
abbrev pub with_block : List ℕ → List ℕ → List ℕ
with_block frame block = put_at frame 16 (take 16 (payload_of frame) ++ block)

-- the same as for the block, in a frame
pub record IsMtuSet (old : List ℕ) (mtu : ℕ) (new : List ℕ) : Type 0 where
  pub block : List ℕ
  pub set : IsMtuSetIn (block_of old) mtu block
  pub whole : new ≡ with_block old block

-- the bytes hold no frame, the payload is shorter than that struct, or its block has no MTU
abbrev pub HasNoMtu : List ℕ → Type 0
HasNoMtu frame =
    ((e : DecodeError) × IsFrameFault false frame e)
    ⊎ ((length (payload_of frame) < 16) ⊎ HasNoMtuIn (block_of frame))
