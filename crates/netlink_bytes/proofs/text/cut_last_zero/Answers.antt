use Rattle.std.proofs.Common.{◌-◌, length, arith}
use Rattle.netlink_bytes.proofs.LastZero.{last_is_zero, last_is_other}
use Rattle.netlink_bytes.proofs.text.cut_last_zero.Goals as goal

pub returns-in-0 : goal.returns-in-0
returns-in-0 c = last_is_zero c.args.bytes.now (length c.args.bytes.now - 1) (omega arith) (omega arith)

pub returns-in_default-2 : goal.returns-in_default-2
returns-in_default-2 c = last_is_other c.args.bytes.now (length c.args.bytes.now - 1) (omega arith) (omega arith)
