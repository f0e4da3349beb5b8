use Rattle.netlink_attributes.specs.BlockLaws.{written_fixed, walked_canonical}
use Rattle.netlink_attributes.proofs.laws.fixed_points.Goals as goal

pub returns-clause-fixed : goal.returns-clause-fixed
returns-clause-fixed c = written_fixed c.args.bytes.now

pub returns-clause-canonical : goal.returns-clause-canonical
returns-clause-canonical c = walked_canonical c.args.bytes.now
