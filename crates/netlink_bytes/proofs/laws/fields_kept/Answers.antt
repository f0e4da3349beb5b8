use Rattle.netlink_bytes.specs.Fields.{fields_kept}
use Rattle.netlink_bytes.proofs.laws.fields_kept.Goals as goal

pub returns : goal.returns
returns c = record { kept = fields_kept }
