use Rattle.std.proofs.Common.{rules}
use Rattle.netlink_lines.specs.Check.{check_of}
use Rattle.netlink_lines.proofs.RejectedBytes.{rejected_other}
use Rattle.netlink_lines.proofs.bytes.push_rejected.Goals as goal

pub returns : goal.returns
returns g c =
    rw (rejected_other (check_of g.F.Table) c.args.frame.now c.args.error.now c.in_default.not-UnknownType) (search rules)
