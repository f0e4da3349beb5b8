use Rattle.netlink_attributes.specs.BlockLaws.{written_alike}
use Rattle.netlink_attributes.proofs.laws.block_unique.Goals as goal

pub returns : goal.returns
returns c = record { unique = written_alike c.args.a.now c.args.b.now }
