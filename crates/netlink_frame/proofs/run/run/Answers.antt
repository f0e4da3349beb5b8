use Rattle.std.proofs.Common.{rules}
use Rattle.netlink_frame.proofs.run.run.Goals as goal

pub returns-clause-runs : goal.returns-clause-runs
returns-clause-runs g c = search rules

pub returns-in_err-input-clause-nothing : goal.returns-in_err-input-clause-nothing
returns-in_err-input-clause-nothing g c = search rules

pub returns-in_err-output-clause-nothing : goal.returns-in_err-output-clause-nothing
returns-in_err-output-clause-nothing g c = search rules
