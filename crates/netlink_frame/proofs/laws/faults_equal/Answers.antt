use Rattle.std.proofs.Common.{refl}
use Rattle.netlink_frame.proofs.FaultsEqual.{faults_equal}
use Rattle.netlink_frame.proofs.laws.faults_equal.Goals as goal

pub returns : goal.returns
returns c = record { equal = faults_equal _ c.causes_equal.ensures.equal (λ a b. refl) }
