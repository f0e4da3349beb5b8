use Rattle.std.proofs.Common.{◌≡◌, ◌+◌, length}
use Rattle.netlink_shapes.specs.Strings.{nul_offset}
use Rattle.netlink_shapes.proofs.decoders.nul_offset_by_one.Given as goal

abbrev pub invariant-loop-rest : goal.invariant-loop-rest
invariant-loop-rest l = record {
  size : nul_offset l.value ≡ l.before + nul_offset l.rest;
  inside : l.before + length l.rest ≡ length l.value;
}

abbrev pub decreases-loop-rest : goal.decreases-loop-rest
decreases-loop-rest l = length l.rest
