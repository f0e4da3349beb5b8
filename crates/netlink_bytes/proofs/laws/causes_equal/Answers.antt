use Rattle.netlink_bytes.proofs.CausesEqual.{causes_equal}
use Rattle.netlink_bytes.proofs.laws.causes_equal.Goals as goal

pub returns : goal.returns
returns c = record { equal = causes_equal }
