use Rattle.std.proofs.Common.{rules}
use Rattle.netlink_input.specs.Time.{unit_of}
use Rattle.netlink_input.proofs.Times.{power_most, power_unit}
use Rattle.netlink_input.proofs.time.unit_of.Goals as goal

pub returns-then-resolution-le172 : goal.returns-then-resolution-le172
returns-then-resolution-le172 c = record {
  is = power_unit c.args.resolution c.if-resolution-ge128.true c.if-resolution-le172.true;
  most = power_most c.args.resolution c.if-resolution-ge128.true c.if-resolution-le172.true;
}

pub returns-else-resolution-le172 : goal.returns-else-resolution-le172
unfolding unit_of
returns-else-resolution-le172 c = search rules

pub returns : goal.returns
unfolding unit_of
returns c = search rules
