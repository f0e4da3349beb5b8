-- The errors of a header and of the bodies of done and error messages.
use Rattle.std.specs.Prelude.{◌≡◌, ◌<◌, ℕ, ℤ, List, false, if◌then◌else◌, length, nat_eq, pos}
use Rattle.netlink_packet_core.specs.DecodeError.{DecodeError}
use Rattle.netlink_packet_core.specs.DecodeError.TheVariants.{FrameShort, DoneShort, ErrorShort}
use Rattle.netlink_packet_core.specs.Header.{field}
use Rattle.netlink_packet_core.specs.Numbers.{signed}

-- there are fewer bytes than a header has
abbrev pub IsShortHeader : List ℕ → DecodeError → Type 0
IsShortHeader bytes e = (length bytes < 16) × (e ≡ FrameShort (length bytes) false)

-- there are bytes, but fewer than a code has; an empty done message has the code 0
abbrev pub IsShortDone : List ℕ → DecodeError → Type 0
IsShortDone payload e =
    (0 < length payload) × (length payload < 4) × (e ≡ DoneShort (length payload) false)

-- the code of a done message
abbrev pub done_code : List ℕ → ℤ
done_code payload = if nat_eq (length payload) 0 then pos 0 else signed 4 (field 0 4 payload)

-- there are fewer bytes than a code has
abbrev pub IsShortError : List ℕ → DecodeError → Type 0
IsShortError payload e = (length payload < 4) × (e ≡ ErrorShort (length payload) false)
