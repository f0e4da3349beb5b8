use Rattle.netlink_attributes.specs.ReadingLaws.{attributes_in-walk, walk-attributes_in, attributes_in-fixed, attributes_in-written}
use Rattle.netlink_attributes.proofs.laws.attributes_read.Goals as goal

pub returns-clause-walk : goal.returns-clause-walk
returns-clause-walk c = λ bytes all each. (walk-attributes_in bytes all each, attributes_in-walk bytes all)

pub returns-clause-canonical : goal.returns-clause-canonical
returns-clause-canonical c = attributes_in-fixed

pub returns-clause-written : goal.returns-clause-written
returns-clause-written c = attributes_in-written
