use Rattle.std.proofs.Common.{refl}
use Rattle.netlink_replies.specs.Answers.{waiting}
use Rattle.netlink_replies.proofs.Ending.{interrupted_by}
use Rattle.netlink_replies.proofs.laws.interruption.Goals as goal

pub returns : goal.returns
returns c = record { flag = λ r frames. interrupted_by (waiting r) frames refl }
