-- The number of an error is not 0, and what is copied out is at the start of the buffer.
use Rattle.std.proofs.Common.{◌≡◌, ℕ, ◌<◌, ◌≤◌, List, length, take, sym, subst, ◌∙◌, inl, inr, arith}
use Rattle.netlink_packet_core.specs.Canonical.{canonical_frame}
use Rattle.netlink_packet_core.specs.Causes.{cause_number}
use Rattle.netlink_packet_core.specs.DecodeError.{DecodeError}
use Rattle.netlink_packet_core.specs.DecodeError.TheVariants.{InvalidBuffer, InvalidMacAddress, InvalidIpAddress, InvalidNumber, NlaBufferTooSmall, NlaLengthMismatch, NlaInvalidLength, BufferTooSmall, FrameShort, FrameCut, FrameLength, DoneShort, ErrorShort, Message, TooLong, OutOfMemory}
use Rattle.netlink_packet_core.specs.Frame.{Frame}
use Rattle.netlink_packet_core.specs.declared.message.NetlinkMessage.{NetlinkMessage}
use Rattle.std.proofs.lemmas.Bool.{cases_lt}
use Rattle.netlink_c.specs.Any.{any_decoding, any_encoding}
use Rattle.netlink_c.specs.Out.{CopiesOut}
use Rattle.netlink_c.specs.declared.any.AnyMessage.{AnyMessage}

pub cause_some : (e : DecodeError) → 0 < cause_number e
cause_some (InvalidBuffer name received minimum_length) = omega arith
cause_some (InvalidMacAddress received) = omega arith
cause_some (InvalidIpAddress received) = omega arith
cause_some (InvalidNumber expected received) = omega arith
cause_some (NlaBufferTooSmall buffer_len nla_len) = omega arith
cause_some (NlaLengthMismatch buffer_len nla_len) = omega arith
cause_some (NlaInvalidLength buffer_len nla_len) = omega arith
cause_some (BufferTooSmall buffer_len value_len) = omega arith
cause_some (FrameShort size inside) = omega arith
cause_some (FrameCut length size inside) = omega arith
cause_some (FrameLength length inside) = omega arith
cause_some (DoneShort size inside) = omega arith
cause_some (ErrorShort size inside) = omega arith
cause_some (Message text) = omega arith
cause_some TooLong = omega arith
cause_some OutOfMemory = omega arith

-- and it is at most 16
pub cause_below : (e : DecodeError) → cause_number e ≤ 16
cause_below (InvalidBuffer name received minimum_length) = omega arith
cause_below (InvalidMacAddress received) = omega arith
cause_below (InvalidIpAddress received) = omega arith
cause_below (InvalidNumber expected received) = omega arith
cause_below (NlaBufferTooSmall buffer_len nla_len) = omega arith
cause_below (NlaLengthMismatch buffer_len nla_len) = omega arith
cause_below (NlaInvalidLength buffer_len nla_len) = omega arith
cause_below (BufferTooSmall buffer_len value_len) = omega arith
cause_below (FrameShort size inside) = omega arith
cause_below (FrameCut length size inside) = omega arith
cause_below (FrameLength length inside) = omega arith
cause_below (DoneShort size inside) = omega arith
cause_below (ErrorShort size inside) = omega arith
cause_below (Message text) = omega arith
cause_below TooLong = omega arith
cause_below OutOfMemory = omega arith

copied : (text buffer new : List ℕ) (size answer : ℕ) → CopiesOut text buffer new size answer → answer ≡ 0 → take size new ≡ text
copied text buffer new size answer out done =
    elim (cases_lt (length buffer) (length text)) [
      | inl short ↦ (let eight = (out.no_room short).0 in absurd (omega (arith, done, eight)))
      | inr fits ↦ (out.written fits).1
    ]

-- what holds for a frame holds for its copy
pub again_out : (items text buffer new : List ℕ) (size answer : ℕ) → CopiesOut text buffer new size answer → text ≡ items
    → ((n : NetlinkMessage AnyMessage) → Frame any_decoding items n → canonical_frame any_encoding n ≡ items)
    → answer ≡ 0 → (n : NetlinkMessage AnyMessage) → Frame any_decoding (take size new) n → canonical_frame any_encoding n ≡ take size new
again_out items text buffer new size answer out same again done =
    subst (λ (x : List ℕ). (n : NetlinkMessage AnyMessage) → Frame any_decoding x n → canonical_frame any_encoding n
    ≡ x) (sym (copied text buffer new size answer out done ∙ same)) again
