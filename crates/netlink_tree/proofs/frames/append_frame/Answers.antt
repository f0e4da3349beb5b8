use Rattle.std.proofs.Common.{arith}
use Rattle.netlink_tree.proofs.FrameAppends.{added, frames_push}
use Rattle.netlink_tree.proofs.frames.append_frame.Goals as goal

pub returns-clause-walk : goal.returns-clause-walk
returns-clause-walk c =
    frames_push c.args.datagram.now.items _ _ c.args.frame.now c.requires.aligned c.in_ok-text.ensures.whole c.in_ok-text.ensures.frame
    (added _ _ _ _ _ _ c.in_ok-reserve.ensures.items c.in_ok-extend_from_slice.ensures.items c.in_ok-append_padding.ensures.ok
    (omega arith))
