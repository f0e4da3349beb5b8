use Rattle.std.proofs.Common.{rules}
use Rattle.netlink_c.proofs.frame.nlp_frame_header.Goals as goal

pub returns-clause-fields : goal.returns-clause-fields
returns-clause-fields c = search rules
