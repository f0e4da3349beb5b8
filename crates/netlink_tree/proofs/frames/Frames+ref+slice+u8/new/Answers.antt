use Rattle.netlink_tree.proofs.FrameWalks.{gives_frames}
use Rattle.netlink_tree.proofs.frames.Frames+ref+slice+u8.new.Goals as goal

pub returns-clause-items : goal.returns-clause-items
returns-clause-items c = gives_frames _
