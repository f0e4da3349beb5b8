-- The object of a rule, with the keys of `ip -j rule` and in its order.
use Rattle.std.specs.Prelude.{ℕ, ◌==◌, not, Bool, true, List, [], ◌∷◌, ◌++◌, drop, length, nat_lt, take, Option, Some, None, codes, decimal, if◌then◌else◌}
use Rattle.std.specs.Int.Bits.{bit_and}
use Rattle.std.specs.Option.{option_map}
use Rattle.netlink_family.specs.Finding.{first_at}
use Rattle.netlink_json.specs.Fields.{Field, absent, present}
use Rattle.netlink_json.specs.Json as json
use Rattle.netlink_packet_core.specs.Fields.{number_at}
use Rattle.netlink_packet_core.specs.Numbers.{number_be}
use Rattle.netlink_route.specs.declared.rules.TheConstants.{FRA_DPORT_RANGE, FRA_DST, FRA_FWMARK, FRA_FWMASK, FRA_IIFNAME, FRA_IP_PROTO, FRA_L3MDEV, FRA_OIFNAME, FRA_PRIORITY, FRA_PROTOCOL, FRA_SPORT_RANGE, FRA_SRC, FRA_TUN_ID, FRA_UID_RANGE}
use Rattle.netlink_route_lines.specs.IpProtocols.{ip_protocol_name}
use Rattle.netlink_route_lines.specs.Rule.{rule_name, word_or_all}
use Rattle.netlink_route_lines.specs.RuleParts.{rule_byte, rule_bytes, rule_flags, rule_number, rule_small}
use Rattle.netlink_words.specs.Parts.{hex_part, host_length, or_zero}
use Rattle.netlink_words.specs.Text.{ip_words}
use Rattle.netlink_objects.specs.Forms.{byte_word, when_json, word_json}
use Rattle.netlink_objects.specs.RuleEnds.{action_fields, flow_fields, lookup_fields}
use Rattle.netlink_objects.specs.Rows.{Row, field_of, row_fields}
use Rattle.netlink_objects.specs.declared.form.Form.TheVariants as form
use Rattle.netlink_objects.specs.declared.row.Place.TheVariants.{Attribute, Inside}

-- whether it is gone, the priority and `not`
unfoldable pub rule_heading : ℕ → List ℕ → List Field
rule_heading t payload =
    field_of (codes "deleted") (when_json (t == 33) (json.boolean true))
    ∷ present (codes "priority") (json.number (or_zero (rule_number payload FRA_PRIORITY)))
    ∷ field_of (codes "not") (when_json (not (bit_and (rule_flags payload) 0x2 == 0)) json.null) ∷ []

-- an address; without one `0`, or nothing if the length of the prefix is 0
unfoldable pub prefix_word : List ℕ → ℕ → List ℕ
prefix_word [] size = if size == 0 then [] else codes "0"
prefix_word (b ∷ ip) size = b ∷ ip

-- the length of a prefix, unless it is that of a whole address, or 0 without an address
abbrev pub length_unless : ℕ → ℕ → Option ℕ
length_unless other size = if size == other then None else Some size

unfoldable pub prefix_length : List ℕ → ℕ → ℕ → Option ℕ
prefix_length [] size whole = length_unless 0 size
prefix_length (b ∷ ip) size whole = length_unless whole size

-- the source and the destination
abbrev pub source_ip : List ℕ → List ℕ
source_ip payload = ip_words (rule_bytes payload FRA_SRC)

unfoldable pub source_fields : List ℕ → List Field
source_fields payload =
    field_of (codes "src") (word_json (word_or_all (prefix_word (source_ip payload) (rule_byte payload 2))))
    ∷ field_of (codes "srclen")
    (option_map json.number
    (prefix_length (source_ip payload) (rule_byte payload 2) (host_length (rule_byte payload 0)))) ∷ []

abbrev pub destination_ip : List ℕ → List ℕ
destination_ip payload = ip_words (rule_bytes payload FRA_DST)

unfoldable pub destination_fields : List ℕ → List Field
destination_fields payload =
    field_of (codes "dst") (word_json (prefix_word (destination_ip payload) (rule_byte payload 1)))
    ∷ field_of (codes "dstlen")
    (option_map json.number
    (prefix_length (destination_ip payload) (rule_byte payload 1) (host_length (rule_byte payload 0)))) ∷ []

-- the type of service
unfoldable pub tos_fields : List ℕ → List Field
tos_fields payload = field_of (codes "tos") (word_json (byte_word form.Tos (rule_byte payload 3))) ∷ []

-- a mark and, unless it is all ones, its mask; a mark that is missing beside a mask is 0
abbrev pub mark_field : ℕ → Field
mark_field mark = present (codes "fwmark") (json.text (hex_part mark))

unfoldable pub mask_field : Option ℕ → Field
mask_field None = absent
mask_field (Some mask) =
    if mask == 4294967295 then absent else present (codes "fwmask") (json.text (hex_part mask))

unfoldable pub mark_fields : Option ℕ → Option ℕ → List Field
mark_fields None None = []
mark_fields (Some mark) mask = mark_field mark ∷ mask_field mask ∷ []
mark_fields None (Some mask) = mark_field 0 ∷ mask_field (Some mask) ∷ []

-- a link by its name, and whether there is none
unfoldable pub link_fields : List ℕ → List ℕ → Option (List ℕ) → Bool → List Field
link_fields key gone_key None gone = []
link_fields key gone_key (Some name) gone =
    present key (json.text name) ∷ field_of gone_key (when_json gone json.null) ∷ []

-- the incoming and the outgoing link
unfoldable pub iif_fields : List ℕ → List Field
iif_fields payload =
    link_fields (codes "iif") (codes "iif_detached") (rule_name payload FRA_IIFNAME)
    (not (bit_and (rule_flags payload) 0x8 == 0))

unfoldable pub oif_fields : List ℕ → List Field
oif_fields payload =
    link_fields (codes "oif") (codes "oif_detached") (rule_name payload FRA_OIFNAME)
    (not (bit_and (rule_flags payload) 0x10 == 0))

-- whether the table is that of the links' master, and the users
abbrev pub where_rows : List Row
where_rows =
    (codes "l3mdev", Attribute FRA_L3MDEV, form.NullIf 0xff)
    ∷ (codes "uid_start", Inside FRA_UID_RANGE 0 4, form.Number)
    ∷ (codes "uid_end", Inside FRA_UID_RANGE 4 4, form.Number) ∷ []

-- an IP protocol by its name, or by its number if it has none
unfoldable pub protocol_word : ℕ → List ℕ → List ℕ
protocol_word n [] = codes "ipproto-" ++ decimal n
protocol_word n (b ∷ name) = b ∷ name

unfoldable pub ip_protocol_field : Option ℕ → Field
ip_protocol_field None = absent
ip_protocol_field (Some n) = present (codes "ipproto") (json.text (protocol_word n (ip_protocol_name n)))

-- the ports of a range, which is one port if the first is the last
abbrev pub port_fields : List ℕ → List ℕ → List ℕ → ℕ → ℕ → List Field
port_fields key first_key last_key first last =
    if first == last then present key (json.number first) ∷ []
    else present first_key (json.number first) ∷ present last_key (json.number last) ∷ []

unfoldable pub range_fields : List ℕ → List ℕ → List ℕ → List ℕ → List Field
range_fields key first_key last_key range =
    if nat_lt (length range) 4 then []
    else port_fields key first_key last_key (number_at 0 2 range) (number_at 2 2 range)

unfoldable pub sport_fields : List ℕ → List Field
sport_fields payload =
    range_fields (codes "sport") (codes "sport_start") (codes "sport_end") (rule_bytes payload FRA_SPORT_RANGE)

unfoldable pub dport_fields : List ℕ → List Field
dport_fields payload =
    range_fields (codes "dport") (codes "dport_start") (codes "dport_end") (rule_bytes payload FRA_DPORT_RANGE)

-- the id of a tunnel
unfoldable pub tunnel_field : List ℕ → Field
tunnel_field payload =
    field_of (codes "tun_id") (option_map json.number (option_map number_be (first_at 12 payload FRA_TUN_ID)))

-- who installed the rule, unless that is nobody or the kernel
abbrev pub installer_rows : List Row
installer_rows = (codes "protocol", Attribute FRA_PROTOCOL, form.Protocol 0 2) ∷ []

-- whether it is gone, the priority, what the rule matches, and what it does
unfoldable pub rule_parts : ℕ → List ℕ → List (List Field)
rule_parts t payload =
    rule_heading t payload
    ∷ source_fields payload
    ∷ destination_fields payload
    ∷ tos_fields payload
    ∷ mark_fields (rule_number payload FRA_FWMARK) (rule_number payload FRA_FWMASK)
    ∷ iif_fields payload
    ∷ oif_fields payload
    ∷ row_fields [] (take 12 payload) (drop 12 payload) where_rows
    ∷ (ip_protocol_field (rule_small payload FRA_IP_PROTO) ∷ [])
    ∷ sport_fields payload
    ∷ dport_fields payload
    ∷ (tunnel_field payload ∷ [])
    ∷ lookup_fields payload
    ∷ flow_fields payload
    ∷ action_fields payload
    ∷ row_fields [] (take 12 payload) (drop 12 payload) installer_rows ∷ []
