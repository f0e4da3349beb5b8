-- The line of a rule, in the order of `ip rule show`, by its message type and its payload.
use Rattle.std.specs.Prelude.{ℕ, ◌==◌, not, Bool, false, List, [], ◌∷◌, ◌++◌, Option, Some, None, codes, decimal, if◌then◌else◌}
use Rattle.std.specs.Int.Bits.{bit_and}
use Rattle.std.specs.Option.{option_map}
use Rattle.netlink_family.specs.Finding.{first_at}
use Rattle.netlink_family.specs.Strings.{until_nul}
use Rattle.netlink_packet_core.specs.Numbers.{number_be}
use Rattle.netlink_route.specs.declared.rules.TheConstants.{FRA_DPORT_RANGE, FRA_DST, FRA_FWMARK, FRA_FWMASK, FRA_IIFNAME, FRA_IP_PROTO, FRA_L3MDEV, FRA_OIFNAME, FRA_PRIORITY, FRA_PROTOCOL, FRA_SPORT_RANGE, FRA_SRC, FRA_TUN_ID, FRA_UID_RANGE}
use Rattle.netlink_words.specs.Parts.{hex_part, host_length, keyed, or_zero, prefix_text, tos_part, when, with_parts}
use Rattle.netlink_route_lines.specs.IpProtocols.{ip_protocol_name}
use Rattle.netlink_route_lines.specs.RuleParts.{action_part, installer_part, link_part, lookup_parts, ports_part, rule_byte, rule_bytes, rule_flags, rule_number, rule_small, users_part}

unfoldable pub word_or_all : List ℕ → List ℕ
word_or_all [] = codes "all"
word_or_all (b ∷ word) = b ∷ word

-- a mark and its mask, which is all ones if it is missing
unfoldable pub mark_part : Option ℕ → Option ℕ → List ℕ
mark_part None None = []
mark_part (Some mark) None = keyed (codes "fwmark") (hex_part mark)
mark_part mark (Some mask) =
    if mask == 4294967295 then keyed (codes "fwmark") (hex_part (or_zero mark))
    else codes "fwmark " ++ (hex_part (or_zero mark) ++ (codes "/" ++ hex_part mask))

-- the verb, priority and negation
unfoldable pub rule_heading : ℕ → List ℕ → List (List ℕ)
rule_heading t payload =
    when (t == 33) (codes "Deleted")
    ∷ when (t == 34) (codes "Get")
    ∷ (decimal (or_zero (rule_number payload FRA_PRIORITY)) ++ codes ":")
    ∷ when (not (bit_and (rule_flags payload) 0x2 == 0)) (codes "not") ∷ []

-- the source and the destination
unfoldable pub source_part : List ℕ → List ℕ
source_part payload =
    keyed (codes "from") (word_or_all
    (prefix_text (rule_bytes payload FRA_SRC) (rule_byte payload 2) (host_length (rule_byte payload 0))))

unfoldable pub destination_part : List ℕ → List ℕ
destination_part payload =
    keyed (codes "to")
    (prefix_text (rule_bytes payload FRA_DST) (rule_byte payload 1) (host_length (rule_byte payload 0)))

-- the type of service and the mark
unfoldable pub rule_marks : List ℕ → List (List ℕ)
rule_marks payload =
    tos_part (rule_byte payload 3)
    ∷ mark_part (rule_number payload FRA_FWMARK) (rule_number payload FRA_FWMASK) ∷ []

unfoldable pub rule_front : ℕ → List ℕ → List (List ℕ)
rule_front t payload =
    rule_heading t payload ++ (source_part payload ∷ destination_part payload ∷ rule_marks payload)

-- a number other than 0
abbrev pub is_set : Option ℕ → Bool
is_set None = false
is_set (Some n) = not (n == 0)

-- an IP protocol by its number and its name, if it has one
unfoldable pub protocol_words : ℕ → List ℕ → List ℕ
protocol_words n [] = codes "ipproto ipproto-" ++ decimal n
protocol_words n (b ∷ name) = keyed (codes "ipproto") (b ∷ name)

unfoldable pub ip_protocol_part : Option ℕ → List ℕ
ip_protocol_part None = []
ip_protocol_part (Some n) = protocol_words n (ip_protocol_name n)

unfoldable pub tunnel_part : Option ℕ → List ℕ
tunnel_part None = []
tunnel_part (Some id) = codes "tun_id " ++ decimal id

-- the name of a link
unfoldable pub rule_name : List ℕ → ℕ → Option (List ℕ)
rule_name payload kind = option_map until_nul (first_at 12 payload kind)

-- the incoming and the outgoing link
unfoldable pub iif_part : List ℕ → List ℕ
iif_part payload =
    link_part (codes "iif") (rule_name payload FRA_IIFNAME) (not (bit_and (rule_flags payload) 0x8 == 0))

unfoldable pub oif_part : List ℕ → List ℕ
oif_part payload =
    link_part (codes "oif") (rule_name payload FRA_OIFNAME) (not (bit_and (rule_flags payload) 0x10 == 0))

-- the links that the rule matches, and whether the table is that of their master
unfoldable pub rule_links : List ℕ → List (List ℕ)
rule_links payload =
    iif_part payload
    ∷ oif_part payload
    ∷ when (is_set (rule_small payload FRA_L3MDEV)) (codes "lookup [l3mdev-table]") ∷ []

-- the users, protocol and ports
unfoldable pub rule_ranges : List ℕ → List (List ℕ)
rule_ranges payload =
    users_part (rule_bytes payload FRA_UID_RANGE)
    ∷ ip_protocol_part (rule_small payload FRA_IP_PROTO)
    ∷ ports_part (codes "sport") (rule_bytes payload FRA_SPORT_RANGE)
    ∷ ports_part (codes "dport") (rule_bytes payload FRA_DPORT_RANGE) ∷ []

-- the same and the tunnel
unfoldable pub rule_where : List ℕ → List (List ℕ)
rule_where payload =
    rule_links payload
    ++ (rule_ranges payload ++ (tunnel_part (option_map number_be (first_at 12 payload FRA_TUN_ID)) ∷ []))

-- the parts of a rule
unfoldable pub rule_parts : ℕ → List ℕ → List (List ℕ)
rule_parts t payload =
    rule_front t payload
    ++ (rule_where payload
    ++ (lookup_parts payload
    ++ (action_part payload ∷ installer_part (rule_small payload FRA_PROTOCOL) ∷ [])))

-- the line of a rule
unfoldable pub rule_line : ℕ → List ℕ → List ℕ
rule_line t payload = with_parts [] (rule_parts t payload) ++ codes "\n"
