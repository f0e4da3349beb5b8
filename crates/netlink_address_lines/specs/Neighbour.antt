-- The line of a neighbour, in the order of `ip neigh show`, by its message type and its payload.
use Rattle.std.specs.Prelude.{ℕ, ◌==◌, not, List, [], ◌∷◌, ◌++◌, take, slice_index, Option, Some, None, codes, if◌then◌else◌}
use Rattle.std.specs.Int.Bits.{bit_and}
use Rattle.std.specs.List.{fold}
use Rattle.std.specs.Option.{option_map}
use Rattle.netlink_family.specs.Finding.{first_at}
use Rattle.netlink_packet_core.specs.Fields.{number_at}
use Rattle.netlink_packet_core.specs.Numbers.{number_le}
use Rattle.netlink_route.specs.declared.neighbours.TheConstants.{NDA_DST, NDA_FLAGS_EXT, NDA_LLADDR, NDA_PROTOCOL}
use Rattle.netlink_words.specs.Parts.{or_empty}
use Rattle.netlink_names.specs.Device.{device_text}
use Rattle.netlink_words.specs.NumberNames.{protocol_text}
use Rattle.netlink_words.specs.Parts.{keyed, or_zero, when, with_part, with_parts}
use Rattle.netlink_words.specs.Text.{bytes_text, ip_words}
use Rattle.netlink_names.specs.declared.device.Known.{Known}

-- the verb of a message; a request is sent if there is no entry
unfoldable pub neighbour_verb_text : ℕ → List ℕ
neighbour_verb_text t =
    if t == 29 then codes "Deleted" else if t == 30 then codes "miss" else []

-- the header, the index in it, and the first attribute of a kind; empty if there is none
abbrev pub neighbour_header : List ℕ → List ℕ
neighbour_header payload = take 12 payload

abbrev pub neighbour_index : List ℕ → ℕ
neighbour_index payload = number_at 4 4 (neighbour_header payload)

abbrev pub neighbour_bytes : List ℕ → ℕ → List ℕ
neighbour_bytes payload kind = or_empty (first_at 12 payload kind)

-- a link other than 0
unfoldable pub neighbour_device : List Known → ℕ → List ℕ
neighbour_device known index =
    when (not (index == 0)) (keyed (codes "dev") (device_text known index))

-- the verb, address, link and link address
unfoldable pub neighbour_front : List Known → ℕ → List ℕ → List (List ℕ)
neighbour_front known t payload =
    neighbour_verb_text t
    ∷ ip_words (neighbour_bytes payload NDA_DST)
    ∷ neighbour_device known (neighbour_index payload)
    ∷ keyed (codes "lladdr") (bytes_text (neighbour_bytes payload NDA_LLADDR)) ∷ []

-- a flag, by a number in which its bit may be set
abbrev pub flag_part : ℕ → ℕ → List ℕ → List ℕ
flag_part flags bit name = when (not (bit_and flags bit == 0)) name

-- the names of the flags that are set, in the header and in the attribute for more flags
unfoldable pub flag_parts : ℕ → ℕ → List (List ℕ)
flag_parts flags more =
    flag_part flags 0x80 (codes "router")
    ∷ flag_part flags 0x08 (codes "proxy")
    ∷ flag_part more 0x1 (codes "managed")
    ∷ flag_part flags 0x10 (codes "extern_learn")
    ∷ flag_part flags 0x20 (codes "offload") ∷ []

abbrev pub neighbour_flags : List ℕ → List (List ℕ)
neighbour_flags payload =
    flag_parts (slice_index (neighbour_header payload) 10)
    (or_zero (option_map number_le (first_at 12 payload NDA_FLAGS_EXT)))

-- the states in the order of `ip`
abbrev pub state_order : List ℕ
state_order = 0x01 ∷ 0x02 ∷ 0x04 ∷ 0x08 ∷ 0x10 ∷ 0x20 ∷ 0x40 ∷ 0x80 ∷ []

-- NUD_* of linux/neighbour.h
unfoldable pub state_name : ℕ → List ℕ
state_name bit =
    if bit == 0x01 then codes "INCOMPLETE"
    else if bit == 0x02 then codes "REACHABLE"
    else if bit == 0x04 then codes "STALE"
    else if bit == 0x08 then codes "DELAY"
    else if bit == 0x10 then codes "PROBE"
    else if bit == 0x20 then codes "FAILED"
    else if bit == 0x40 then codes "NOARP"
    else if bit == 0x80 then codes "PERMANENT"
    else []

-- a text, followed by the name of a state if that is set
abbrev pub with_state : ℕ → List ℕ → ℕ → List ℕ
with_state states text bit = with_part text (flag_part states bit (state_name bit))

-- a text, followed by the names of the states that are set
unfoldable pub states_text : ℕ → List ℕ → List ℕ
states_text states text = fold (with_state states) text state_order

-- a protocol other than 0
unfoldable pub protocol_part : Option ℕ → List ℕ
protocol_part None = []
protocol_part (Some n) = when (not (n == 0)) (keyed (codes "proto") (protocol_text n))

-- the verb, address, link, link address, flags, states and protocol
unfoldable pub neighbour_line : List Known → ℕ → List ℕ → List ℕ
neighbour_line known t payload =
    with_part
    (states_text (number_at 8 2 (neighbour_header payload))
    (with_parts (with_parts [] (neighbour_front known t payload)) (neighbour_flags payload)))
    (protocol_part (option_map (λ value. slice_index value 0) (first_at 12 payload NDA_PROTOCOL)))
    ++ codes "\n"
