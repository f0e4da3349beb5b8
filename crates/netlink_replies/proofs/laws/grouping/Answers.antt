use Rattle.netlink_replies.proofs.Grouping.{reads_alike, reads_joined}
use Rattle.netlink_replies.proofs.laws.grouping.Goals as goal

pub returns : goal.returns
returns c = record { frames = reads_joined; alike = reads_alike }
