-- Calls of `next` yield the frames of the bytes.
use Rattle.std.proofs.Common.{ℕ, List, refl, arith, Bor}
use Rattle.std.specs.Prelude.{false}
use Rattle.netlink_packet_core.specs.WalkItems.{ItemLaws, gives_all}
use Rattle.netlink_packet_core.specs.FrameStartLaws.{starts_frame-length}
use Rattle.netlink_packet_core.specs.FrameWalk.{StartsFrame}
use Rattle.netlink_packet_core.specs.FrameWalkLaws.{frame_steps_laws, has_frames}
use Rattle.netlink_packet_core.specs.Refusal.{IsFrameFault}
use Rattle.netlink_tree.specs.FrameSteps.{unread_frames, frame_steps, frame_bound, GivesFrames, ShowsFrame}
use Rattle.netlink_tree.specs.declared.frames.Frames.{Frames}

-- a walk has at most one item for each 16 bytes, counting a part of 16 as a whole
item_laws : ItemLaws StartsFrame (IsFrameFault false) ShowsFrame unread_frames frame_steps frame_bound
item_laws =
    record {
      shows = λ s frame t gives. (frame.now, gives.1, refl);
      fails = λ s e t gives. gives;
      ends = λ s t gives. gives.0;
      step =
          λ bytes frame rest starts.
          let size = starts_frame-length bytes frame rest starts in
          let least = starts.least in
          omega arith;
      fault = λ bytes some. omega arith;
    }

pub gives_frames : (s : Frames (Bor (List ℕ))) → GivesFrames s
gives_frames s =
    gives_all StartsFrame (IsFrameFault false) ShowsFrame unread_frames frame_steps frame_bound frame_steps_laws item_laws s
    (has_frames (unread_frames s))
