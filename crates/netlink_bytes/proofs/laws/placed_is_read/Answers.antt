use Rattle.netlink_bytes.specs.Fields.{placed_is_read}
use Rattle.netlink_bytes.proofs.laws.placed_is_read.Goals as goal

pub returns : goal.returns
returns c = record { read = placed_is_read }
