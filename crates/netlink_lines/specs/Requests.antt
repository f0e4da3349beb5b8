-- What a program asks of the kernel: to change something, or to list what there is.
use Rattle.std.specs.Prelude.{ℕ, ◌==◌, ◌&&◌, ◌||◌, ◌/◌, not, nat_eq, Bool, List, ◌++◌, drop, codes, if◌then◌else◌}
use Rattle.std.specs.Int.Bits.{bit_and}
use Rattle.std.specs.List.{starts_with}
use Rattle.netlink_packet_core.specs.declared.constants.TheConstants.{NLM_F_DUMP, NLM_F_REQUEST}
use Rattle.netlink_replies.specs.Headers.{has_flag}

-- the groups of four types in which the kernel repeats the flags of a request in its own messages: those of filters (44
-- to 46), of actions (48 to 50) and of next hops (104 to 106)
abbrev pub repeats_flags : ℕ → Bool
repeats_flags group = group == 11 || group == 12 || group == 26

-- a message with these flags and of this type asks for a change: the two lowest bits of the types `RTM_GET*` are 2
abbrev pub is_request : ℕ → ℕ → Bool
is_request flags t = (has_flag flags NLM_F_REQUEST && not (bit_and t 3 == 2)) && not (repeats_flags (t / 4))

-- it asks for a dump, by either bit of `NLM_F_DUMP`
abbrev pub is_dump : ℕ → ℕ → Bool
is_dump flags t = (has_flag flags NLM_F_REQUEST && has_flag flags NLM_F_DUMP) && bit_and t 3 == 2

-- the line of a request for a change, by the line of the same message without the flag, which begins with `deleted` in
-- the lines of traffic control
abbrev pub lower_line : List ℕ → List ℕ
lower_line line =
    if starts_with nat_eq line (codes "deleted") then codes "request delete" ++ drop 7 line
    else codes "request " ++ line

-- and with `Deleted` in the others
abbrev pub request_line : List ℕ → List ℕ
request_line line =
    if starts_with nat_eq line (codes "Deleted") then codes "request delete" ++ drop 7 line
    else lower_line line

-- the line of a message with these flags and of this type, by its line as no request
abbrev pub asked_line : ℕ → ℕ → List ℕ → List ℕ
asked_line flags t line = if is_request flags t then request_line line else line
