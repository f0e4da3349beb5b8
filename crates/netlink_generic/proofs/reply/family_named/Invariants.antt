use Rattle.std.proofs.Common.{List, ℕ, ◌≡◌, None}
use Rattle.netlink_packet_core.specs.FrameProgress.{PassesFrames}
use Rattle.netlink_tree.specs.FrameSteps.{unread_frames}
use Rattle.netlink_generic.specs.Replies.{first_named}
use Rattle.netlink_generic.proofs.reply.family_named.Given as goal

-- some frames are passed, and none describes the family
abbrev pub invariant-loop-item : goal.invariant-loop-item
invariant-loop-item l =
    (done : List (List ℕ)) × PassesFrames l.datagram done (unread_frames l.item-iterator)
    × (first_named l.name done ≡ None)
