use Rattle.netlink_tree.proofs.FrameWalks.{gives_frames}
use Rattle.netlink_tree.proofs.laws.frames_given.Goals as goal

pub returns : goal.returns
returns c = record { given = gives_frames }
