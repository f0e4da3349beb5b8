-- The times that `rtmon` writes before messages.
use Rattle.std.specs.Prelude.{ℕ, ◌==◌, List, [], ◌++◌, length, nat_lt, Option, Some, None, codes, decimal, if◌then◌else◌}
use Rattle.netlink_packet_core.specs.Fields.{number_at}
use Rattle.netlink_packet_core.specs.Header.{header_of, payload_of}
use Rattle.netlink_input.specs.declared.time.Time.{Time}

-- the time in a payload of 8 bytes
unfoldable pub time_of : List ℕ → Option Time
time_of payload =
    if length payload == 8
    then Some (record { seconds = number_at 0 4 payload; micros = number_at 4 4 payload }) else None

-- the time in a frame, if its message type is 15 (`NLMSG_TSTAMP` of iproute2's libnetlink.h)
unfoldable pub time_in : List ℕ → Option Time
time_in frame =
    if (header_of frame).message_type == 15 then time_of (payload_of frame) else None

-- the zeros before a number that is written with six digits
unfoldable pub zeros_before : ℕ → List ℕ
zeros_before n =
    if nat_lt n 10 then codes "00000"
    else if nat_lt n 100 then codes "0000"
    else if nat_lt n 1000 then codes "000"
    else if nat_lt n 10000 then codes "00"
    else if nat_lt n 100000 then codes "0"
    else []

-- a time before a line: seconds, and at least six digits of microseconds
unfoldable pub time_text : Time → List ℕ
time_text time =
    codes "["
    ++ (decimal time.seconds ++ (codes "." ++ (zeros_before time.micros ++ (decimal time.micros ++ codes "] "))))

-- why a payload is no time
abbrev pub time_why : List ℕ → List ℕ
time_why payload = codes "the payload has " ++ (decimal (length payload) ++ codes " bytes instead of 8")
