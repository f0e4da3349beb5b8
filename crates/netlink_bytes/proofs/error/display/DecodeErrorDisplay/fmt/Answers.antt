-- Each arm prints the text of the variant that it matched.
use Rattle.std.proofs.Common.{subst, sym}
use Rattle.std.specs.Fmt.{HasWritten}
use Rattle.netlink_bytes.specs.Causes.{cause_text}
use Rattle.netlink_bytes.proofs.error.display.DecodeErrorDisplay.fmt.Goals as goal

pub returns-in-InvalidBuffer-clause-writes : goal.returns-in-InvalidBuffer-clause-writes
returns-in-InvalidBuffer-clause-writes g c = λ plain ok.
    subst (λ e. HasWritten g.W.Write.write_str_gives c.args.f.now (cause_text e) c.write.new.self)
    (sym c.in-InvalidBuffer.is) (c.write.ensures.writes plain ok)

pub returns-in-InvalidMacAddress-clause-writes : goal.returns-in-InvalidMacAddress-clause-writes
returns-in-InvalidMacAddress-clause-writes g c = λ plain ok.
    subst (λ e. HasWritten g.W.Write.write_str_gives c.args.f.now (cause_text e) c.write-in-InvalidMacAddress.new.self)
    (sym c.in-InvalidMacAddress.is) (c.write-in-InvalidMacAddress.ensures.writes plain ok)

pub returns-in-InvalidIpAddress-clause-writes : goal.returns-in-InvalidIpAddress-clause-writes
returns-in-InvalidIpAddress-clause-writes g c = λ plain ok.
    subst (λ e. HasWritten g.W.Write.write_str_gives c.args.f.now (cause_text e) c.write-in-InvalidIpAddress.new.self)
    (sym c.in-InvalidIpAddress.is) (c.write-in-InvalidIpAddress.ensures.writes plain ok)

pub returns-in-InvalidNumber-clause-writes : goal.returns-in-InvalidNumber-clause-writes
returns-in-InvalidNumber-clause-writes g c = λ plain ok.
    subst (λ e. HasWritten g.W.Write.write_str_gives c.args.f.now (cause_text e) c.write-in-InvalidNumber.new.self)
    (sym c.in-InvalidNumber.is) (c.write-in-InvalidNumber.ensures.writes plain ok)

pub returns-in-NlaBufferTooSmall-clause-writes : goal.returns-in-NlaBufferTooSmall-clause-writes
returns-in-NlaBufferTooSmall-clause-writes g c = λ plain ok.
    subst (λ e. HasWritten g.W.Write.write_str_gives c.args.f.now (cause_text e) c.write-in-NlaBufferTooSmall.new.self)
    (sym c.in-NlaBufferTooSmall.is) (c.write-in-NlaBufferTooSmall.ensures.writes plain ok)

pub returns-in-NlaLengthMismatch-clause-writes : goal.returns-in-NlaLengthMismatch-clause-writes
returns-in-NlaLengthMismatch-clause-writes g c = λ plain ok.
    subst (λ e. HasWritten g.W.Write.write_str_gives c.args.f.now (cause_text e) c.write-in-NlaLengthMismatch.new.self)
    (sym c.in-NlaLengthMismatch.is) (c.write-in-NlaLengthMismatch.ensures.writes plain ok)

pub returns-in-NlaInvalidLength-clause-writes : goal.returns-in-NlaInvalidLength-clause-writes
returns-in-NlaInvalidLength-clause-writes g c = λ plain ok.
    subst (λ e. HasWritten g.W.Write.write_str_gives c.args.f.now (cause_text e) c.write-in-NlaInvalidLength.new.self)
    (sym c.in-NlaInvalidLength.is) (c.write-in-NlaInvalidLength.ensures.writes plain ok)

pub returns-in-BufferTooSmall-clause-writes : goal.returns-in-BufferTooSmall-clause-writes
returns-in-BufferTooSmall-clause-writes g c = λ plain ok.
    subst (λ e. HasWritten g.W.Write.write_str_gives c.args.f.now (cause_text e) c.write-in-BufferTooSmall.new.self)
    (sym c.in-BufferTooSmall.is) (c.write-in-BufferTooSmall.ensures.writes plain ok)

pub returns-in-TooLong-clause-writes : goal.returns-in-TooLong-clause-writes
returns-in-TooLong-clause-writes g c = λ plain ok.
    subst (λ e. HasWritten g.W.Write.write_str_gives c.args.f.now (cause_text e) c.write_str-in-TooLong.new.self)
    (sym c.in-TooLong.is) (c.write_str-in-TooLong.ensures.writes plain ok)

pub returns-in-OutOfMemory-clause-writes : goal.returns-in-OutOfMemory-clause-writes
returns-in-OutOfMemory-clause-writes g c = λ plain ok.
    subst (λ e. HasWritten g.W.Write.write_str_gives c.args.f.now (cause_text e) c.write_str-in-OutOfMemory.new.self)
    (sym c.in-OutOfMemory.is) (c.write_str-in-OutOfMemory.ensures.writes plain ok)
