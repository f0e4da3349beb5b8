use Rattle.std.proofs.Common.{rules}
use Rattle.netlink_c.proofs.frame.nlp_frame_payload.Goals as goal

pub returns-in-Some-clause-payload : goal.returns-in-Some-clause-payload
returns-in-Some-clause-payload c = search rules

pub returns-in-Some-clause-place : goal.returns-in-Some-clause-place
returns-in-Some-clause-place c = search rules
