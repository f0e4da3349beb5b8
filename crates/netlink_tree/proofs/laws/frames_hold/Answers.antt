use Rattle.netlink_packet_core.specs.FrameWalkLaws.{each_holds}
use Rattle.netlink_tree.proofs.laws.frames_hold.Goals as goal

pub returns : goal.returns
returns c = record { holds = each_holds }
