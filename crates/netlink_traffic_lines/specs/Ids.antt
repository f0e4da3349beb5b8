-- The header of a message (`struct tcmsg` of linux/rtnetlink.h), and the ids of queueing disciplines and classes, 16 bits
-- for each of its two numbers.
use Rattle.std.specs.Prelude.{ℕ, ◌==◌, ◌/◌, ◌%◌, false, List, ◌++◌, take, codes, if◌then◌else◌}
use Rattle.std.specs.Fmt.{digits}
use Rattle.std.specs.Int.{cast_unsigned, w32}
use Rattle.std.specs.Option.{option_map}
use Rattle.netlink_family.specs.Finding.{first_at}
use Rattle.netlink_family.specs.Strings.{until_nul}
use Rattle.netlink_packet_core.specs.Fields.{number_at}
use Rattle.netlink_packet_core.specs.Numbers.{signed}
use Rattle.netlink_route.specs.declared.traffic_control.TheConstants.{TCA_KIND}
use Rattle.netlink_words.specs.Parts.{keyed, or_empty}

-- the index of the link, the own id, the parent's id, and what the type of the message gives a meaning
abbrev pub index_of : List ℕ → ℕ
index_of payload = cast_unsigned w32 (signed 4 (number_at 4 4 (take 20 payload)))

abbrev pub handle_of : List ℕ → ℕ
handle_of payload = number_at 8 4 (take 20 payload)

abbrev pub parent_of : List ℕ → ℕ
parent_of payload = number_at 12 4 (take 20 payload)

abbrev pub info_of : List ℕ → ℕ
info_of payload = number_at 16 4 (take 20 payload)

-- the kind, for example `htb`; empty if it is missing
abbrev pub kind_of : List ℕ → List ℕ
kind_of payload = or_empty (option_map until_nul (first_at 20 payload TCA_KIND))

-- the id of a queueing discipline
abbrev pub handle_text : ℕ → List ℕ
handle_text id = digits 16 false (id / 65536) ++ codes ":"

-- the two numbers of an id, without one that is 0
abbrev pub pair_text : ℕ → ℕ → List ℕ
pair_text major minor =
    if major == 0 then codes ":" ++ digits 16 false minor
    else if minor == 0 then digits 16 false major ++ codes ":"
    else digits 16 false major ++ (codes ":" ++ digits 16 false minor)

-- the id of a class (TC_H_ROOT and TC_H_UNSPEC of linux/pkt_sched.h)
unfoldable pub id_text : ℕ → List ℕ
id_text id =
    if id == 0xffffffff then codes "root"
    else if id == 0 then codes "none"
    else pair_text (id / 65536) (id % 65536)

-- the parent of a class
unfoldable pub parent_part : ℕ → List ℕ
parent_part parent = if parent == 0xffffffff then codes "root" else keyed (codes "parent") (id_text parent)
