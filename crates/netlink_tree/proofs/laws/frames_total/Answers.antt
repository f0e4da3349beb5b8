use Rattle.netlink_packet_core.specs.FrameWalkLaws.{has_frames}
use Rattle.netlink_tree.proofs.laws.frames_total.Goals as goal

pub returns : goal.returns
returns c = record { exists = has_frames }
