use Rattle.std.proofs.Common.{rules, subst, sym}
use Rattle.std.specs.Fmt.{HasWritten}
use Rattle.netlink_input.specs.Stream.{why_text}
use Rattle.netlink_input.proofs.stream.CauseDisplay.fmt.Goals as goal

pub returns-in-TooLong-clause-writes : goal.returns-in-TooLong-clause-writes
returns-in-TooLong-clause-writes g c = λ plain ok.
    subst (λ why. HasWritten g.W.Write.write_str_gives c.args.f.now (why_text why) c.write-in-TooLong.new.self)
    (sym c.in-TooLong.is) (c.write-in-TooLong.ensures.writes plain ok)

pub returns-in-Damaged-clause-writes : goal.returns-in-Damaged-clause-writes
returns-in-Damaged-clause-writes g c = search rules
