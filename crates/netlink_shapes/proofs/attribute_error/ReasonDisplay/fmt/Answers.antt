-- Each arm writes the text of its own reason.
use Rattle.std.proofs.Common.{subst, sym}
use Rattle.std.specs.Fmt.{HasWritten}
use Rattle.netlink_shapes.specs.ErrorTexts.{reason_text}
use Rattle.netlink_shapes.proofs.attribute_error.ReasonDisplay.fmt.Goals as goal

pub returns-in-Short-clause-writes : goal.returns-in-Short-clause-writes
returns-in-Short-clause-writes g c = λ plain ok.
    subst (λ e. HasWritten g.W.Write.write_str_gives c.args.f.now (reason_text e) c.write.new.self)
    (sym c.in-Short.is) (c.write.ensures.writes plain ok)

pub returns-in-Truncated-clause-writes : goal.returns-in-Truncated-clause-writes
returns-in-Truncated-clause-writes g c = λ plain ok.
    subst (λ e. HasWritten g.W.Write.write_str_gives c.args.f.now (reason_text e) c.write-in-Truncated.new.self)
    (sym c.in-Truncated.is) (c.write-in-Truncated.ensures.writes plain ok)

pub returns-in-InvalidLength-clause-writes : goal.returns-in-InvalidLength-clause-writes
returns-in-InvalidLength-clause-writes g c = λ plain ok.
    subst (λ e. HasWritten g.W.Write.write_str_gives c.args.f.now (reason_text e) c.write-in-InvalidLength.new.self)
    (sym c.in-InvalidLength.is) (c.write-in-InvalidLength.ensures.writes plain ok)

pub returns-in-WrongSize-clause-writes : goal.returns-in-WrongSize-clause-writes
returns-in-WrongSize-clause-writes g c = λ plain ok.
    subst (λ e. HasWritten g.W.Write.write_str_gives c.args.f.now (reason_text e) c.write-in-WrongSize.new.self)
    (sym c.in-WrongSize.is) (c.write-in-WrongSize.ensures.writes plain ok)

pub returns-in-NotNulTerminated-clause-writes : goal.returns-in-NotNulTerminated-clause-writes
returns-in-NotNulTerminated-clause-writes g c = λ plain ok.
    subst (λ e. HasWritten g.W.Write.write_str_gives c.args.f.now (reason_text e) c.write-in-NotNulTerminated.new.self)
    (sym c.in-NotNulTerminated.is) (c.write-in-NotNulTerminated.ensures.writes plain ok)

pub returns-in-WrongAddressSize-clause-writes : goal.returns-in-WrongAddressSize-clause-writes
returns-in-WrongAddressSize-clause-writes g c = λ plain ok.
    subst (λ e. HasWritten g.W.Write.write_str_gives c.args.f.now (reason_text e) c.write-in-WrongAddressSize.new.self)
    (sym c.in-WrongAddressSize.is) (c.write-in-WrongAddressSize.ensures.writes plain ok)

pub returns-in-TooDeep-clause-writes : goal.returns-in-TooDeep-clause-writes
returns-in-TooDeep-clause-writes g c = λ plain ok.
    subst (λ e. HasWritten g.W.Write.write_str_gives c.args.f.now (reason_text e) c.write-in-TooDeep.new.self)
    (sym c.in-TooDeep.is) (c.write-in-TooDeep.ensures.writes plain ok)

pub returns-in-InteriorNul-clause-writes : goal.returns-in-InteriorNul-clause-writes
returns-in-InteriorNul-clause-writes g c = λ plain ok.
    subst (λ e. HasWritten g.W.Write.write_str_gives c.args.f.now (reason_text e) c.write-in-InteriorNul.new.self)
    (sym c.in-InteriorNul.is) (c.write-in-InteriorNul.ensures.writes plain ok)

pub returns-in-TooSmall-clause-writes : goal.returns-in-TooSmall-clause-writes
returns-in-TooSmall-clause-writes g c = λ plain ok.
    subst (λ e. HasWritten g.W.Write.write_str_gives c.args.f.now (reason_text e) c.write-in-TooSmall.new.self)
    (sym c.in-TooSmall.is) (c.write-in-TooSmall.ensures.writes plain ok)

pub returns-in-LateChoice-clause-writes : goal.returns-in-LateChoice-clause-writes
returns-in-LateChoice-clause-writes g c = λ plain ok.
    subst (λ e. HasWritten g.W.Write.write_str_gives c.args.f.now (reason_text e) c.write-in-LateChoice.new.self)
    (sym c.in-LateChoice.is) (c.write-in-LateChoice.ensures.writes plain ok)

pub returns-in-NoMultiple-clause-writes : goal.returns-in-NoMultiple-clause-writes
returns-in-NoMultiple-clause-writes g c = λ plain ok.
    subst (λ e. HasWritten g.W.Write.write_str_gives c.args.f.now (reason_text e) c.write-in-NoMultiple.new.self)
    (sym c.in-NoMultiple.is) (c.write-in-NoMultiple.ensures.writes plain ok)
