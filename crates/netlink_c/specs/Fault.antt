-- The numbers of an error.
use Rattle.std.specs.Prelude.{◌≡◌, ℕ, Bool, true, false}
use Rattle.netlink_packet_core.specs.Causes.{cause_number}
use Rattle.netlink_packet_core.specs.DecodeError.{DecodeError}
use Rattle.netlink_packet_core.specs.DecodeError.TheVariants.{InvalidBuffer, InvalidMacAddress, InvalidIpAddress, InvalidNumber, NlaBufferTooSmall, NlaLengthMismatch, NlaInvalidLength, BufferTooSmall, FrameShort, FrameCut, FrameLength, DoneShort, ErrorShort, Message, TooLong, OutOfMemory}
use Rattle.netlink_c.specs.declared.fault.FaultNumbers.{FaultNumbers}

abbrev pub flag : Bool → ℕ
flag true = 1
flag false = 0

-- the four numbers, with `inside` as 1 or 0
abbrev pub numbers_with : ℕ → Bool → ℕ → ℕ → FaultNumbers
numbers_with cause inside size wanted = record {
  cause = cause;
  inside = flag inside;
  size = size;
  wanted = wanted;
}

abbrev pub numbers_of : DecodeError → FaultNumbers
numbers_of (InvalidBuffer name received minimum_length) = numbers_with 1 false received
    minimum_length
numbers_of (InvalidMacAddress received) = numbers_with 2 false received 0
numbers_of (InvalidIpAddress received) = numbers_with 3 false received 0
numbers_of (InvalidNumber expected received) = numbers_with 4 false received expected
numbers_of (NlaBufferTooSmall buffer_len nla_len) = numbers_with 5 false buffer_len nla_len
numbers_of (NlaLengthMismatch buffer_len nla_len) = numbers_with 6 false buffer_len nla_len
numbers_of (NlaInvalidLength buffer_len nla_len) = numbers_with 7 false buffer_len nla_len
numbers_of (BufferTooSmall buffer_len value_len) = numbers_with 8 false buffer_len value_len
numbers_of (FrameShort size inside) = numbers_with 9 inside size 0
numbers_of (FrameCut length size inside) = numbers_with 10 inside size length
numbers_of (FrameLength length inside) = numbers_with 11 inside 0 length
numbers_of (DoneShort size inside) = numbers_with 12 inside size 0
numbers_of (ErrorShort size inside) = numbers_with 13 inside size 0
numbers_of (Message text) = numbers_with 14 false 0 0
numbers_of TooLong = numbers_with 15 false 0 0
numbers_of OutOfMemory = numbers_with 16 false 0 0

-- the result is the number of an error for which `IsCause` holds, and `fault` holds the numbers of
-- that error
abbrev pub Refuses : (DecodeError → Type 0) → ℕ → FaultNumbers → Type 0
Refuses IsCause answer fault = (e : DecodeError) × IsCause e × (answer ≡ cause_number e)
    × (fault ≡ numbers_of e)

-- the result is the number of `OutOfMemory`, and `fault` holds its numbers
abbrev pub IsOutOfMemory : ℕ → FaultNumbers → Type 0
IsOutOfMemory answer fault = (answer ≡ 16) × (fault ≡ numbers_of OutOfMemory)
