use Rattle.netlink_attributes.proofs.CutLemmas.{cut_attributes, cut_is_fault, cut_no_fault}
use Rattle.netlink_attributes.proofs.laws.walk_cut.Goals as goal

pub returns-clause-attributes : goal.returns-clause-attributes
returns-clause-attributes c = cut_attributes c.args.bytes.now c.args.cut c.requires.inside

pub returns-clause-fault : goal.returns-clause-fault
returns-clause-fault c = cut_is_fault c.args.bytes.now c.args.cut c.requires.inside

pub returns-clause-no_fault : goal.returns-clause-no_fault
returns-clause-no_fault c = cut_no_fault c.args.bytes.now c.args.cut c.requires.inside
