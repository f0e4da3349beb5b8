-- Values of routes and of next hops.
use Rattle.std.specs.Prelude.{ℕ, ℤ, ◌==◌, ◌||◌, ◌/◌, ◌%◌, not, Bool, false, List, [], ◌∷◌, ◌++◌, length, int_div, nat_lt, pos, Option, Some, None, codes, if◌then◌else◌}
use Rattle.std.specs.Fmt.{digits}
use Rattle.std.specs.Int.Bits.{bit_and}
use Rattle.std.specs.Ordering.{int_eq}
use Rattle.netlink_packet_core.specs.Fields.{number_at}
use Rattle.netlink_packet_core.specs.Numbers.{signed}
use Rattle.netlink_json.specs.Fields.{Field, items_of, object_of, present}
use Rattle.netlink_json.specs.Json as json
use Rattle.netlink_json.specs.Json.{Json}
use Rattle.netlink_names.specs.declared.device.Known.{Known}
use Rattle.netlink_objects.specs.Forms.{device_json, nonzero_json, word_json}
use Rattle.netlink_objects.specs.Rows.{field_of}
use Rattle.netlink_route_lines.specs.Mpls.{labels_text}
use Rattle.netlink_route_lines.specs.RouteCache.{cache_flag_name, cache_flag_order}
use Rattle.netlink_route_lines.specs.RouteFlags.{hop_flag_name, hop_flag_order}
use Rattle.netlink_route_lines.specs.RouteHops.{via_address}
use Rattle.netlink_words.specs.NumberNames.{family_text, protocol_text, scope_text, table_text}
use Rattle.netlink_words.specs.Parts.{realm_text}

-- the name of a link by its index; 0 is any link
abbrev pub link_json : List Known → Option ℕ → Option Json
link_json known None = None
link_json known (Some index) =
    if index == 0 then Some (json.text (codes "*")) else device_json known (Some index)

-- the labels that replace that of the destination of a route of MPLS
abbrev pub label_word : ℕ → List ℕ → List ℕ
label_word family labels = if family == 28 then labels_text labels else []

-- a gateway of another family: the number of the family in two bytes, of which the upper one is
-- ignored, and the address
abbrev pub host_fields : ℕ → List ℕ → List Field
host_fields family address =
    present (codes "family") (json.text (family_text family))
    ∷ present (codes "host") (json.text (via_address family address)) ∷ []

abbrev pub via_json : List ℕ → Option Json
via_json [] = None
via_json (low ∷ []) = None
via_json (low ∷ high ∷ address) = Some (object_of (host_fields low address))

-- the realms of a flow, of which the first may be missing
abbrev pub from_word : ℕ → List ℕ
from_word realm = if realm == 0 then [] else realm_text realm

abbrev pub realm_fields : ℕ → ℕ → List Field
realm_fields from to =
    field_of (codes "from") (word_json (from_word from))
    ∷ present (codes "to") (json.text (realm_text to)) ∷ []

abbrev pub flow_json : Option ℕ → Option Json
flow_json None = None
flow_json (Some flow) = Some (object_of (realm_fields (flow / 65536) (flow % 65536)))

-- the table, unless it is `main` or none, and who installed the route and its scope, unless the kernel looked it up
abbrev pub table_word : ℕ → List ℕ
table_word table = if table == 0 || table == 254 then [] else table_text table

abbrev pub installer_word : Bool → ℕ → List ℕ
installer_word own n = if not own || n == 3 then [] else protocol_text n

abbrev pub scope_word : Bool → ℕ → List ℕ
scope_word own n = if not own || n == 0 then [] else scope_text n

-- ---- flags

-- the names of the bits that are set, as items, in an order
abbrev pub named_item : Bool → List ℕ → List Json
named_item holds name = if holds then json.text name ∷ [] else []

abbrev pub set_items : (ℕ → List ℕ) → ℕ → List ℕ → List Json
set_items name flags [] = []
set_items name flags (bit ∷ bits) = named_item (not (bit_and flags bit == 0)) (name bit) ++ set_items name flags bits

-- those of a route and a next hop
unfoldable pub flag_items : ℕ → List Json
flag_items flags = set_items hop_flag_name flags hop_flag_order

abbrev pub flags_json : ℕ → Json
flags_json flags = json.array (items_of (flag_items flags))

-- those of a route that was looked up, and the bits without a name as one hexadecimal number
unfoldable pub named_cache_items : ℕ → List Json
named_cache_items flags = set_items cache_flag_name flags cache_flag_order

abbrev pub rest_items : ℕ → List Json
rest_items rest = if rest == 0 then [] else json.text (digits 16 false rest) ∷ []

abbrev pub cache_items : ℕ → List Json
cache_items flags = named_cache_items flags ++ rest_items (bit_and flags 0x02100000)

abbrev pub cached_json : ℕ → Json
cached_json flags = json.array (items_of (cache_items flags))

-- of an IPv4 route alone
abbrev pub cache_json : ℕ → ℕ → Option Json
cache_json family flags =
    if not (family == 2) || bit_and flags 0x200 == 0 then None
    else Some (cached_json flags)

-- ---- numbers

-- a lifetime in hundredths of a second
abbrev pub expires_json : ℤ → Option Json
expires_json expires =
    if int_eq expires (pos 0) then None else Some (json.signed (int_div expires (pos 100)))

-- the lifetime and the error in `struct rta_cacheinfo`
abbrev pub lifetime_fields : Option (List ℕ) → List Field
lifetime_fields None = []
lifetime_fields (Some info) =
    if nat_lt (length info) 16 then []
    else field_of (codes "expires") (expires_json (signed 4 (number_at 8 4 info)))
    ∷ field_of (codes "error") (nonzero_json (Some (number_at 12 4 info))) ∷ []

-- ICMPV6_ROUTER_PREF_* of linux/icmpv6.h
abbrev pub level_json : ℕ → Json
level_json n =
    if n == 0 then json.text (codes "medium")
    else if n == 1 then json.text (codes "high")
    else if n == 3 then json.text (codes "low")
    else json.number n

abbrev pub preference_json : Option ℕ → Option Json
preference_json None = None
preference_json (Some n) = Some (level_json n)

-- whether the time to live goes on in the IP header
abbrev pub propagation_json : Option ℕ → Option Json
propagation_json None = None
propagation_json (Some n) = Some (json.boolean (not (n == 0)))
