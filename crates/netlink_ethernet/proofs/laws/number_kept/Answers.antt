use Rattle.netlink_ethernet.proofs.Rows.{number_of-protocol_of}
use Rattle.netlink_ethernet.proofs.laws.number_kept.Goals as goal

pub returns : goal.returns
returns c = record { kept = number_of-protocol_of c.args.number }
