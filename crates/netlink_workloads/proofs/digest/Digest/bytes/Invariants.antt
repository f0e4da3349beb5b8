use Rattle.std.proofs.Common.{length}
use Rattle.netlink_workloads.proofs.digest.Digest.bytes.Given as goal

abbrev pub decreases-loop-rest : goal.decreases-loop-rest
decreases-loop-rest l = length l.rest
