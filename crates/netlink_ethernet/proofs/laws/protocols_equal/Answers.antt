use Rattle.netlink_ethernet.proofs.Equal.{same_protocol}
use Rattle.netlink_ethernet.proofs.laws.protocols_equal.Goals as goal

pub returns : goal.returns
returns c = record { equal = same_protocol }
