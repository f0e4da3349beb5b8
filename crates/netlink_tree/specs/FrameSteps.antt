-- What calls of `next` do.
use Rattle.std.specs.Prelude.{◌≡◌, ◌≢◌, ◌+◌, ◌/◌, ℕ, List, [], false, length, Option, Some, None, Result, Ok, Err}
use denote.Ref.{Bor}
use Rattle.netlink_packet_core.specs.WalkItems.{GivesAll, ItemsShow}
use Rattle.netlink_packet_core.specs.DecodeError.{DecodeError}
use Rattle.netlink_packet_core.specs.Header.{HoldsFrame}
use Rattle.netlink_packet_core.specs.Refusal.{IsFrameFault}
use Rattle.netlink_packet_core.specs.FrameWalk.{StartsFrame}
use Rattle.netlink_tree.specs.declared.frames.Frames.{Frames}

-- the bytes that are still to be walked
abbrev pub unread_frames : Frames (Bor (List ℕ)) → List ℕ
unread_frames walk = walk.rest.now

-- an item of a walk: a frame without its padding, or an error
abbrev pub FrameItem : Type 0
FrameItem = Result (Bor (List ℕ)) DecodeError

-- one step of a walk over these bytes, and what is then still to be walked; a frame is complete
abbrev pub GivesFrame : List ℕ → Option FrameItem → List ℕ → Type 0
GivesFrame bytes None rest = (bytes ≡ []) × (rest ≡ [])
GivesFrame bytes (Some (Err fault)) rest =
    (bytes ≢ []) × IsFrameFault false bytes fault × (rest ≡ [])
GivesFrame bytes (Some (Ok frame)) rest = HoldsFrame frame.now × StartsFrame bytes frame.now rest

-- one call of `next`
abbrev pub frame_steps : Frames (Bor (List ℕ)) → Option FrameItem → Frames (Bor (List ℕ)) → Type 0
frame_steps before item after = GivesFrame (unread_frames before) item (unread_frames after)

-- an item is the frame
abbrev pub ShowsFrame : Bor (List ℕ) → List ℕ → Type 0
ShowsFrame item frame = item.now ≡ frame

-- the items are these frames, and then the error, if there is one
abbrev pub AreFrames : List FrameItem → List (List ℕ) → Option DecodeError → Type 0
AreFrames = ItemsShow ShowsFrame

-- the maximum number of items for a list of bytes
abbrev pub frame_bound : List ℕ → ℕ
frame_bound bytes = (length bytes + 15) / 16

-- The unread bytes have a walk, and calls of `next` until it returns `None` yield exactly that
-- walk: there are frames and an error, or none, for which `FrameWalk` holds, and any items that are
-- all that the calls yield are these (`AreFrames`), at most `frame_bound` of them.
abbrev pub GivesFrames : Frames (Bor (List ℕ)) → Type 0
GivesFrames =
    GivesAll StartsFrame (IsFrameFault false) ShowsFrame unread_frames frame_steps frame_bound
