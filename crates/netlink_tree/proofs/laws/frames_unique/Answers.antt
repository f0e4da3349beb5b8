use Rattle.netlink_packet_core.specs.FrameWalkLaws.{frames_once}
use Rattle.netlink_tree.proofs.laws.frames_unique.Goals as goal

pub returns : goal.returns
returns c = record { unique = frames_once }
