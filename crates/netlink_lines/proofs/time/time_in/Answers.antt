use Rattle.std.proofs.Common.{rules}
use Rattle.netlink_lines.specs.Time.{time_in, time_of}
use Rattle.netlink_lines.proofs.time.time_in.Goals as goal

pub returns : goal.returns
unfolding time_in time_of
returns c = search rules
