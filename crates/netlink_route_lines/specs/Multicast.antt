-- The line of a route of multicast routing, in the order of `ip mroute show`.
use Rattle.std.specs.Prelude.{ℕ, ◌==◌, ◌||◌, ◌/◌, not, Bool, List, [], ◌∷◌, ◌++◌, nat_lt, take, Option, Some, None, codes, decimal, if◌then◌else◌}
use Rattle.std.specs.Int.Bits.{bit_and}
use Rattle.std.specs.List.{fold}
use Rattle.std.specs.Option.{option_map}
use Rattle.netlink_family.specs.Finding.{first_at}
use Rattle.netlink_family.specs.Listing.{listed}
use Rattle.netlink_packet_core.specs.Attribute.{Attribute}
use Rattle.netlink_packet_core.specs.Fields.{number_at}
use Rattle.netlink_packet_core.specs.Numbers.{number_le}
use Rattle.netlink_route.specs.declared.routes.TheConstants.{RTA_DST, RTA_IIF, RTA_MULTIPATH, RTA_SRC}
use Rattle.netlink_names.specs.Device.{device_text}
use Rattle.netlink_words.specs.NumberNames.{table_text}
use Rattle.netlink_words.specs.Parts.{keyed, or_empty, when, with_part, with_parts}
use Rattle.netlink_words.specs.Text.{ip_words}
use Rattle.netlink_names.specs.declared.device.Known.{Known}

-- the families of multicast routing of IPv4 and IPv6
abbrev pub is_multicast : ℕ → Bool
is_multicast family = family == 128 || family == 129

unfoldable pub word_or_unknown : List ℕ → List ℕ
word_or_unknown [] = codes "unknown"
word_or_unknown (b ∷ word) = b ∷ word

-- the source and the group
unfoldable pub pair_text : List ℕ → List ℕ → List ℕ
pair_text source group =
    codes "(" ++ (word_or_unknown (ip_words source)
    ++ (codes "," ++ (word_or_unknown (ip_words group) ++ codes ")")))

-- the incoming link
unfoldable pub incoming_part : List Known → Option ℕ → List ℕ
incoming_part known None = codes "Iif: unresolved"
incoming_part known (Some index) =
    if index == 0 then codes "Iif: unresolved" else keyed (codes "Iif:") (device_text known index)

-- an outgoing link by its flags and hops, which are the least time to live, and its index in bytes
unfoldable pub outgoing_text : List Known → ℕ → List ℕ → List ℕ
outgoing_text known word index =
    if nat_lt (word / 256) 2 then device_text known (number_le index)
    else device_text known (number_le index) ++ (codes "(ttl " ++ (decimal (word / 256) ++ codes ")"))

-- a text, followed by the outgoing link that an attribute has the form of
abbrev pub with_outgoing : List Known → List ℕ → Attribute → List ℕ
with_outgoing known text hop = with_part text (outgoing_text known hop.kind (take 4 hop.value))

unfoldable pub outgoing_list : List Known → Option (List ℕ) → List ℕ
outgoing_list known None = []
outgoing_list known (Some list) = fold (with_outgoing known) [] (listed list)

-- the verb, the source and the group, the incoming link and the outgoing links
unfoldable pub route_parts : List Known → ℕ → List ℕ → List (List ℕ)
route_parts known t payload =
    when (t == 25) (codes "Deleted")
    ∷ when (t == 26) (codes "Get")
    ∷ pair_text (or_empty (first_at 12 payload RTA_SRC)) (or_empty (first_at 12 payload RTA_DST))
    ∷ incoming_part known (option_map number_le (first_at 12 payload RTA_IIF))
    ∷ keyed (codes "Oifs:") (outgoing_list known (first_at 12 payload RTA_MULTIPATH)) ∷ []

-- whether the route is resolved, and whether a device routes in place of the kernel
unfoldable pub state_parts : ℕ → List (List ℕ)
state_parts flags =
    (if bit_and flags 0x20 == 0 then codes "State: resolved" else codes "State: unresolved")
    ∷ when (not (bit_and flags 0x8 == 0)) (codes "offload") ∷ []

-- the table, unless it is `main` or none
unfoldable pub multicast_table : ℕ → List ℕ
multicast_table table =
    if table == 0 || table == 254 then [] else keyed (codes "Table:") (table_text table)

-- the line of a route in a table
unfoldable pub multicast_line : List Known → ℕ → ℕ → List ℕ → List ℕ
multicast_line known t table payload =
    with_parts [] (route_parts known t payload
    ++ (state_parts (number_at 8 4 (take 12 payload)) ++ (multicast_table table ∷ []))) ++ codes "\n"
