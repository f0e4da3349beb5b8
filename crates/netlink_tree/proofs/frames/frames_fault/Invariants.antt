use Rattle.std.proofs.Common.{List, ℕ}
use Rattle.netlink_packet_core.specs.FrameProgress.{PassesFrames}
use Rattle.netlink_tree.specs.FrameSteps.{unread_frames}
use Rattle.netlink_tree.proofs.frames.frames_fault.Given as goal

-- some frames have been passed
abbrev pub invariant-loop-item : goal.invariant-loop-item
invariant-loop-item l = (done : List (List ℕ)) × PassesFrames l.datagram done (unread_frames l.item-iterator)
