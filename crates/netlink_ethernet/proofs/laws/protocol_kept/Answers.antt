use Rattle.netlink_ethernet.proofs.Rows.{protocol_of-number_of}
use Rattle.netlink_ethernet.proofs.laws.protocol_kept.Goals as goal

pub returns : goal.returns
returns c = record { kept = protocol_of-number_of c.args.protocol }
