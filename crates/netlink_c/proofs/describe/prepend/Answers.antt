use Rattle.std.proofs.Common.{arith}
use Rattle.netlink_c.proofs.DescribeLemmas.{prepended}
use Rattle.netlink_c.proofs.describe.prepend.Goals as goal

pub returns-clause-written : goal.returns-clause-written
returns-clause-written c = prepended c.args.lines.now c.put.new.buffer c.args.text.now _ c.args.end (omega arith) (omega arith) c.put.ensures
