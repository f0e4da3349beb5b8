use Rattle.std.proofs.Common.{List, ℕ, ◌≡◌, string_bytes}
use Rattle.netlink_packet_core.specs.FrameProgress.{PassesFrames}
use Rattle.netlink_tree.specs.FrameSteps.{unread_frames}
use Rattle.netlink_frame.specs.Lines.{frame_lines}
use Rattle.netlink_frame.proofs.frames.shown_frames.Given as goal

-- some frames have been passed, and their lines have been appended
abbrev pub invariant-loop-item : goal.invariant-loop-item
invariant-loop-item l =
    (done : List (List ℕ)) × PassesFrames l.datagram done (unread_frames l.item-iterator) × (string_bytes l.text ≡ frame_lines done)
