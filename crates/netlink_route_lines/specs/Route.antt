-- The line of a route, in the order of `ip route show`, by its message type and its payload.
use Rattle.std.specs.Prelude.{ℕ, ◌==◌, ◌&&◌, ◌||◌, not, Bool, false, List, [], ◌∷◌, ◌++◌, take, slice_index, nat_lt, Option, Some, None, codes, decimal, if◌then◌else◌}
use Rattle.std.specs.Fmt.{digits}
use Rattle.std.specs.Int.Bits.{bit_and}
use Rattle.std.specs.Option.{option_map}
use Rattle.netlink_family.specs.Finding.{first_at}
use Rattle.netlink_packet_core.specs.Fields.{number_at}
use Rattle.netlink_packet_core.specs.Numbers.{number_le}
use Rattle.netlink_route.specs.declared.routes.TheConstants.{RTA_CACHEINFO, RTA_DST, RTA_ENCAP, RTA_ENCAP_TYPE, RTA_FLOW, RTA_GATEWAY, RTA_IIF, RTA_MARK, RTA_METRICS, RTA_MULTIPATH, RTA_NEWDST, RTA_NH_ID, RTA_OIF, RTA_PREF, RTA_PREFSRC, RTA_PRIORITY, RTA_SRC, RTA_TABLE, RTA_TTL_PROPAGATE, RTA_UID, RTA_VIA}
use Rattle.netlink_words.specs.Parts.{or_empty}
use Rattle.netlink_names.specs.Device.{device_part}
use Rattle.netlink_words.specs.NumberNames.{protocol_text, route_type_text, scope_text, table_text}
use Rattle.netlink_words.specs.Parts.{host_length, keyed, number_part, prefix_text, realms_part, tos_part, when, with_parts}
use Rattle.netlink_route_lines.specs.Encap.{encap_part}
use Rattle.netlink_route_lines.specs.Mpls.{label_target, new_labels, propagation_part}
use Rattle.netlink_route_lines.specs.Multicast.{is_multicast, multicast_line}
use Rattle.netlink_route_lines.specs.RouteCache.{cache_part, lifetime_parts}
use Rattle.netlink_route_lines.specs.RouteHops.{hops_text, via_part}
use Rattle.netlink_route_lines.specs.RouteMetrics.{metrics_text}
use Rattle.netlink_route_lines.specs.RouteFlags.{hop_flags_text, preference_part}
use Rattle.netlink_words.specs.Text.{ip_words}
use Rattle.netlink_names.specs.declared.device.Known.{Known}

-- a byte of the header
abbrev pub route_byte : List ℕ → ℕ → ℕ
route_byte payload at = slice_index (take 12 payload) at

abbrev pub route_flags : List ℕ → ℕ
route_flags payload = number_at 8 4 (take 12 payload)

-- the first attribute of a kind, as bytes and as a number
abbrev pub route_bytes : List ℕ → ℕ → List ℕ
route_bytes payload kind = or_empty (first_at 12 payload kind)

abbrev pub route_number : List ℕ → ℕ → Option ℕ
route_number payload kind = option_map number_le (first_at 12 payload kind)

abbrev pub type_part : ℕ → List ℕ
type_part n = if n == 1 then [] else route_type_text n

abbrev pub word_or_default : List ℕ → List ℕ
word_or_default [] = codes "default"
word_or_default (b ∷ word) = b ∷ word

-- the destination, and the source if there is one
abbrev pub target_text : List ℕ → List ℕ
target_text payload =
    if route_byte payload 0 == 28 then label_target (route_bytes payload RTA_DST) (route_byte payload 1)
    else word_or_default (prefix_text (route_bytes payload RTA_DST) (route_byte payload 1) (host_length (route_byte payload 0)))

abbrev pub source_text : List ℕ → List ℕ
source_text payload =
    prefix_text (route_bytes payload RTA_SRC) (route_byte payload 2) (host_length (route_byte payload 0))

-- the verb, type, destination, source, id of the next hop, new labels, encapsulation, type of service
unfoldable pub route_front : List Known → ℕ → List ℕ → List (List ℕ)
route_front known t payload =
    when (t == 25) (codes "Deleted")
    ∷ when (t == 26) (codes "Get")
    ∷ type_part (route_byte payload 7)
    ∷ target_text payload
    ∷ keyed (codes "from") (source_text payload)
    ∷ number_part (codes "nhid") (route_number payload RTA_NH_ID)
    ∷ new_labels (route_byte payload 0) (route_bytes payload RTA_NEWDST)
    ∷ encap_part known (route_number payload RTA_ENCAP_TYPE) (first_at 12 payload RTA_ENCAP)
    ∷ tos_part (route_byte payload 3) ∷ []

-- the gateway and the link
unfoldable pub route_next : List Known → List ℕ → List (List ℕ)
route_next known payload =
    keyed (codes "via") (ip_words (route_bytes payload RTA_GATEWAY))
    ∷ via_part (route_bytes payload RTA_VIA)
    ∷ device_part known (codes "dev") (route_number payload RTA_OIF) ∷ []

-- the number of the table
abbrev pub table_or : Option ℕ → ℕ → ℕ
table_or None n = n
table_or (Some table) n = table

abbrev pub route_table : List ℕ → ℕ
route_table payload = table_or (route_number payload RTA_TABLE) (route_byte payload 4)

abbrev pub table_part : ℕ → List ℕ
table_part table = if table == 0 || table == 254 then [] else codes "table " ++ table_text table

-- the kernel did not look the route up for a request
abbrev pub is_own : List ℕ → Bool
is_own payload = bit_and (route_flags payload) 0x200 == 0

abbrev pub installer_part : Bool → ℕ → List ℕ
installer_part own n = if not own || n == 3 then [] else codes "proto " ++ protocol_text n

abbrev pub scope_part : Bool → ℕ → List ℕ
scope_part own n = if not own || n == 0 then [] else codes "scope " ++ scope_text n

-- the table, protocol, scope, preferred source, metric and flags
unfoldable pub origin_parts : List ℕ → List (List ℕ)
origin_parts payload =
    table_part (route_table payload)
    ∷ installer_part (is_own payload) (route_byte payload 5)
    ∷ scope_part (is_own payload) (route_byte payload 6)
    ∷ keyed (codes "src") (ip_words (route_bytes payload RTA_PREFSRC))
    ∷ number_part (codes "metric") (route_number payload RTA_PRIORITY)
    ∷ hop_flags_text (route_flags payload) ∷ []

abbrev pub mark_part : Option ℕ → List ℕ
mark_part None = []
mark_part (Some mark) =
    if mark == 0 then []
    else if nat_lt mark 16 then codes "mark " ++ decimal mark
    else codes "mark 0x" ++ digits 16 false mark

-- the mark, realms, user, and what the kernel keeps
unfoldable pub kept_parts : List ℕ → List (List ℕ)
kept_parts payload =
    mark_part (route_number payload RTA_MARK)
    ∷ realms_part (codes "realm") (codes "realms") (route_number payload RTA_FLOW)
    ∷ number_part (codes "uid") (route_number payload RTA_UID)
    ∷ cache_part (route_byte payload 0) (route_flags payload) ∷ []

-- the metrics, incoming link, preference, and whether the time to live goes on
unfoldable pub last_parts : List Known → List ℕ → List (List ℕ)
last_parts known payload =
    metrics_text (first_at 12 payload RTA_METRICS)
    ∷ device_part known (codes "iif") (route_number payload RTA_IIF)
    ∷ preference_part (option_map (λ value. slice_index value 0) (first_at 12 payload RTA_PREF))
    ∷ propagation_part (option_map (λ value. slice_index value 0) (first_at 12 payload RTA_TTL_PROPAGATE)) ∷ []

-- what follows the flags
unfoldable pub with_rest : List Known → List ℕ → List ℕ → List ℕ
with_rest known text payload =
    with_parts (with_parts (with_parts text (kept_parts payload)) (lifetime_parts (first_at 12 payload RTA_CACHEINFO)))
    (last_parts known payload)

-- what precedes the next hops
unfoldable pub route_words : List Known → ℕ → List ℕ → List ℕ
route_words known t payload =
    with_rest known (with_parts (with_parts (with_parts [] (route_front known t payload)) (route_next known payload))
    (origin_parts payload)) payload

-- a message about a route of IPv4, IPv6 or MPLS, or a request for routes of any family
abbrev pub is_shown : ℕ → ℕ → Bool
is_shown t family = not (host_length family == 0) || family == 28 || (t == 26 && family == 0)

-- the line of a route of these families
unfoldable pub route_entry_line : List Known → ℕ → List ℕ → Option (List ℕ)
route_entry_line known t payload =
    if is_multicast (route_byte payload 0) then Some (multicast_line known t (route_table payload) payload)
    else if is_shown t (route_byte payload 0)
    then Some (hops_text known (route_byte payload 0) (route_words known t payload) (first_at 12 payload RTA_MULTIPATH)
    ++ codes "\n")
    else None
