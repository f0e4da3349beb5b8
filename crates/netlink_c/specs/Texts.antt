-- The error that numbers identify.
use Rattle.std.specs.Prelude.{◌≡◌, ◌<◌, ◌^◌, ◌⊎◌, ◌==◌, ◌&&◌, ℕ, Bool, true, false, List, Option, Some, None, nat_lt, if◌then◌else◌}
use Rattle.netlink_packet_core.specs.Causes.{cause_text}
use Rattle.netlink_packet_core.specs.DecodeError.{DecodeError}
use Rattle.netlink_packet_core.specs.DecodeError.TheVariants.{InvalidBuffer, InvalidMacAddress, InvalidIpAddress, InvalidNumber, NlaBufferTooSmall, NlaLengthMismatch, NlaInvalidLength, BufferTooSmall, FrameShort, FrameCut, FrameLength, DoneShort, ErrorShort, Message, TooLong, OutOfMemory}
use Rattle.netlink_c.specs.Out.{CopiesOut}
use Rattle.netlink_c.specs.declared.fault.FaultNumbers.{FaultNumbers}

-- an error that its numbers identify: it holds no string, and its length field fits in 32 bits
abbrev pub HasNumbersAlone : DecodeError → Type 0
HasNumbersAlone (InvalidBuffer name received minimum_length) = ⊥
HasNumbersAlone (FrameCut length size inside) = length < 2 ^ 32
HasNumbersAlone (FrameLength length inside) = length < 2 ^ 32
HasNumbersAlone (Message text) = ⊥
HasNumbersAlone _ = Unit {0}

abbrev pub is_inside : FaultNumbers → Bool
is_inside fault = if fault.inside == 0 then false else true

abbrev pub cause_from : FaultNumbers → Option DecodeError
cause_from fault =
    if fault.cause == 2 then Some (InvalidMacAddress fault.size)
    else if fault.cause == 3 then Some (InvalidIpAddress fault.size)
    else if fault.cause == 4 then Some (InvalidNumber fault.wanted fault.size)
    else if fault.cause == 5 then Some (NlaBufferTooSmall fault.size fault.wanted)
    else if fault.cause == 6 then Some (NlaLengthMismatch fault.size fault.wanted)
    else if fault.cause == 7 then Some (NlaInvalidLength fault.size fault.wanted)
    else if fault.cause == 8 then Some (BufferTooSmall fault.size fault.wanted)
    else if fault.cause == 9 then Some (FrameShort fault.size (is_inside fault))
    else if fault.cause == 10 && nat_lt fault.wanted (2 ^ 32) then Some
    (FrameCut fault.wanted fault.size (is_inside fault))
    else if fault.cause == 11 && nat_lt fault.wanted (2 ^ 32) then Some
    (FrameLength fault.wanted (is_inside fault))
    else if fault.cause == 12 then Some (DoneShort fault.size (is_inside fault))
    else if fault.cause == 13 then Some (ErrorShort fault.size (is_inside fault))
    else if fault.cause == 15 then Some TooLong
    else if fault.cause == 16 then Some OutOfMemory
    else None

-- the error text is copied out, or the allocation for it failed and the buffer is unchanged
abbrev pub IsTextOut : DecodeError → List ℕ → List ℕ → ℕ → ℕ → Type 0
IsTextOut e buffer new size answer = CopiesOut (cause_text e) buffer new size answer
    ⊎ ((answer ≡ 16) × (new ≡ buffer))
