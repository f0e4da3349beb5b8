use Rattle.std.proofs.Common.{◌≡◌, drop}
use Rattle.netlink_c.specs.Policies.{has_zero}
use Rattle.netlink_c.proofs.policy.holds_zero.Given as goal

-- no byte so far is zero
abbrev pub invariant-loop-byte : goal.invariant-loop-byte
invariant-loop-byte l = has_zero l.bytes ≡ has_zero (drop l.byte-index l.bytes)
