use Rattle.netlink_attributes.specs.BlockLaws.{attribute_of-padded, holds_padded}
use Rattle.netlink_attributes.proofs.laws.written_reads_back.Goals as goal

pub returns-clause-holds : goal.returns-clause-holds
returns-clause-holds c = holds_padded

pub returns-clause-back : goal.returns-clause-back
returns-clause-back c = attribute_of-padded
