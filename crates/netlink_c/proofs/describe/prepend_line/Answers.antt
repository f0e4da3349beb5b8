use Rattle.std.proofs.Common.{arith}
use Rattle.std.proofs.lemmas.Fmt.{length-decimal-le}
use Rattle.netlink_c.proofs.describe.prepend_line.Goals as goal

pub prepend-requires : goal.prepend-requires
prepend-requires c =
    let digits = length-decimal-le 10 c.args.number (omega arith) (omega arith) (omega arith) in
    let first = c.prepend-at.ensures.size in
    let second = c.prepend_number-at.ensures.size in
    record {
      room = (
        omega (arith, digits, first, second, c.requires.room),
        omega arith,
      );
    }

pub returns-clause-size : goal.returns-clause-size
returns-clause-size c =
    let digits = length-decimal-le 10 c.args.number (omega arith) (omega arith) (omega arith) in
    let first = c.prepend-at.ensures.size in
    let second = c.prepend_number-at.ensures.size in
    let third = c.prepend.ensures.size in
    (omega (arith, first, second, third), omega (arith, digits, first, second, third))
