use Rattle.std.proofs.Common.{rules}
use Rattle.netlink_c.proofs.attribute_batch.nlp_attrs_fill.Goals as goal

pub returns-in-Some-clause-filled : goal.returns-in-Some-clause-filled
returns-in-Some-clause-filled c = search rules

pub returns-in-Some-clause-rest : goal.returns-in-Some-clause-rest
returns-in-Some-clause-rest c = search rules
