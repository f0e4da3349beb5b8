use Rattle.std.proofs.Common.{◌<◌, ◌%◌, arith}
use Rattle.std.proofs.Math.Nat.{mod-lt}
use Rattle.netlink_input.proofs.time.clock_time.Goals as goal

pub overflow_mul-result : goal.overflow_mul-result
overflow_mul-result c =
    let less : c.args.count % c.unit_of-unit.result < c.unit_of-unit.result = mod-lt c.args.count (omega (arith, c.if-unit-eq0.false)) in
    omega (arith, less, c.unit_of-unit.ensures.most)
