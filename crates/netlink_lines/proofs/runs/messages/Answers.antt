use Rattle.netlink_lines.specs.Check.{check_of}
use Rattle.netlink_lines.specs.Messages.{Check}
use Rattle.netlink_lines.proofs.Running.{ended_with}
use Rattle.netlink_lines.proofs.runs.messages.Goals as goal
use Rattle.std.proofs.lemmas.Result.{err_from_is_err_and}

pub returns-in_err-outcome : goal.returns-in_err-outcome
returns-in_err-outcome g c =
    let p = err_from_is_err_and c.from_residual.result c.from_residual.ensures.1 in
    record { runs = rw (p.1, p.2) c.in_err-outcome.ensures.runs }

pub returns : goal.returns
returns g c =
    let check : Check = check_of g.F.Table in
    record { runs = rw c.end_with.ensures.is (ended_with check _ _ _ _ _ _ _ _ c.in_ok-outcome.ensures.runs) }
