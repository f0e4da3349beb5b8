-- The numbers of an error identify it.
use Rattle.std.proofs.Common.{◌≡◌, ℕ, true, false, List, refl, ap, sym, subst, ◌∙◌, arith, Option, Some}
use Rattle.netlink_packet_core.specs.DecodeError.{DecodeError}
use Rattle.netlink_packet_core.specs.DecodeError.TheVariants.{InvalidBuffer, InvalidMacAddress, InvalidIpAddress, InvalidNumber, NlaBufferTooSmall, NlaLengthMismatch, NlaInvalidLength, BufferTooSmall, FrameShort, FrameCut, FrameLength, DoneShort, ErrorShort, Message, TooLong, OutOfMemory}
use Rattle.netlink_c.specs.Fault.{numbers_of}
use Rattle.netlink_c.specs.Texts.{HasNumbersAlone, IsTextOut, cause_from}
use Rattle.netlink_c.specs.declared.fault.FaultNumbers.{FaultNumbers}

cause_from-numbers_of : (e : DecodeError) → HasNumbersAlone e → cause_from (numbers_of e) ≡ Some e
cause_from-numbers_of (InvalidBuffer name received minimum_length) none = absurd none
cause_from-numbers_of (FrameCut length size true) fits = grind arith
cause_from-numbers_of (FrameCut length size false) fits = grind arith
cause_from-numbers_of (FrameLength length true) fits = grind arith
cause_from-numbers_of (FrameLength length false) fits = grind arith
cause_from-numbers_of (Message text) none = absurd none
cause_from-numbers_of (FrameShort size true) alone = refl
cause_from-numbers_of (FrameShort size false) alone = refl
cause_from-numbers_of (DoneShort size true) alone = refl
cause_from-numbers_of (DoneShort size false) alone = refl
cause_from-numbers_of (ErrorShort size true) alone = refl
cause_from-numbers_of (ErrorShort size false) alone = refl
cause_from-numbers_of (InvalidMacAddress received) alone = refl
cause_from-numbers_of (InvalidIpAddress received) alone = refl
cause_from-numbers_of (InvalidNumber expected received) alone = refl
cause_from-numbers_of (NlaBufferTooSmall buffer_len nla_len) alone = refl
cause_from-numbers_of (NlaLengthMismatch buffer_len nla_len) alone = refl
cause_from-numbers_of (NlaInvalidLength buffer_len nla_len) alone = refl
cause_from-numbers_of (BufferTooSmall buffer_len value_len) alone = refl
cause_from-numbers_of TooLong alone = refl
cause_from-numbers_of OutOfMemory alone = refl

some_is : (a b : DecodeError) → ◌≡◌ {A = Option DecodeError} (Some a) (Some b) → a ≡ b
some_is a b e = cc

-- the numbers of an error identify that error and no other
told : (fault : FaultNumbers) (e cause : DecodeError) → HasNumbersAlone e → fault ≡ numbers_of e → cause_from fault ≡ Some cause → cause ≡ e
told fault e cause alone same tells = some_is cause e (sym tells ∙ ap cause_from same ∙ cause_from-numbers_of e alone)

-- so the text for the numbers is the text of that error
pub told_text : (fault : FaultNumbers) (e cause : DecodeError) (buffer new : List ℕ) (size answer : ℕ) → HasNumbersAlone e → fault
    ≡ numbers_of e → Some cause ≡ cause_from fault → IsTextOut cause buffer new size answer → IsTextOut e buffer new size answer
told_text fault e cause buffer new size answer alone same tells out = subst (λ (x : DecodeError). IsTextOut x buffer new size answer)
    (told fault e cause alone same (sym tells)) out
