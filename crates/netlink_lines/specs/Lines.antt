-- The lines of messages. Every line ends with a line feed.
use Rattle.std.specs.Prelude.{ℕ, ℤ, List, [], ◌∷◌, ◌++◌, Option, Some, None, codes, pos, if◌then◌else◌}
use Rattle.std.specs.Ordering.{int_eq}
use Rattle.netlink_family.specs.Shapes.{has_type}
use Rattle.netlink_lines.specs.SystemErrors.{code_text}
use Rattle.netlink_address_lines.specs.Address.{address_line}
use Rattle.netlink_address_lines.specs.NetworkConfiguration.{configuration_line}
use Rattle.netlink_address_lines.specs.Prefix.{prefix_line}
use Rattle.netlink_bridge_lines.specs.MulticastGroup.{group_line}
use Rattle.netlink_bridge_lines.specs.Statistics.{statistics_line}
use Rattle.netlink_bridge_lines.specs.Vlan.{vlan_line}
use Rattle.netlink_bridge_lines.specs.Vni.{vni_line}
use Rattle.netlink_names.specs.Known.{link_known}
use Rattle.netlink_link_lines.specs.Link.{link_line}
use Rattle.netlink_next_hop_lines.specs.NextHop.{next_hop_line}
use Rattle.netlink_route_lines.specs.Namespace.{namespace_line}
use Rattle.netlink_address_lines.specs.Neighbour.{neighbour_line}
use Rattle.netlink_address_lines.specs.NeighbourTable.{neighbour_table_line}
use Rattle.netlink_route_lines.specs.Route.{route_entry_line}
use Rattle.netlink_route_lines.specs.Rule.{rule_line}
use Rattle.netlink_traffic_lines.specs.Action.{action_line}
use Rattle.netlink_traffic_lines.specs.Traffic.{traffic_line}
use Rattle.netlink_names.specs.declared.device.Known.{Known}

-- a code other than 0, and its name
abbrev pub code_words : ℤ → List ℕ
code_words code = if int_eq code (pos 0) then [] else codes " " ++ code_text code

-- a done message by its code and by what it says
abbrev pub done_line : ℤ → List ℕ → List ℕ
done_line code words = codes "done" ++ (code_words code ++ (words ++ codes "\n"))

-- an error by its code, which is 0 in an acknowledgement, and by what it says
abbrev pub error_line : ℤ → List ℕ → List ℕ
error_line code words =
    (if int_eq code (pos 0) then codes "ack" else codes "error " ++ code_text code) ++ (words ++ codes "\n")

-- the message types of links and addresses (linux/rtnetlink.h)
abbrev pub link_types : List ℕ
link_types = 16 ∷ 17 ∷ 18 ∷ 19 ∷ []

abbrev pub address_types : List ℕ
address_types = 20 ∷ 21 ∷ 22 ∷ []

-- those of routes, neighbours, rules, neighbour tables and ids of network namespaces
abbrev pub route_types : List ℕ
route_types = 24 ∷ 25 ∷ 26 ∷ []

abbrev pub neighbour_types : List ℕ
neighbour_types = 28 ∷ 29 ∷ 30 ∷ []

abbrev pub rule_types : List ℕ
rule_types = 32 ∷ 33 ∷ 34 ∷ []

abbrev pub neighbour_table_types : List ℕ
neighbour_table_types = 64 ∷ 66 ∷ 67 ∷ []

abbrev pub namespace_types : List ℕ
namespace_types = 88 ∷ 89 ∷ 90 ∷ []

-- those of next hops and buckets, of settings of links, and of announced prefixes
abbrev pub next_hop_types : List ℕ
next_hop_types = 104 ∷ 105 ∷ 106 ∷ 116 ∷ 117 ∷ 118 ∷ []

abbrev pub configuration_types : List ℕ
configuration_types = 80 ∷ 81 ∷ 82 ∷ []

abbrev pub prefix_types : List ℕ
prefix_types = 52 ∷ []

-- those of queueing disciplines, classes, filters and chains, and of actions
abbrev pub traffic_types : List ℕ
traffic_types = 36 ∷ 37 ∷ 38 ∷ 40 ∷ 41 ∷ 42 ∷ 44 ∷ 45 ∷ 46 ∷ 100 ∷ 101 ∷ 102 ∷ []

abbrev pub action_types : List ℕ
action_types = 48 ∷ 49 ∷ 50 ∷ []

-- those of multicast groups of bridges, statistics of links, VLANs of bridges, and VNIs of VXLAN links
abbrev pub group_types : List ℕ
group_types = 84 ∷ 85 ∷ 86 ∷ []

abbrev pub statistics_types : List ℕ
statistics_types = 92 ∷ 94 ∷ 95 ∷ []

abbrev pub vlan_types : List ℕ
vlan_types = 112 ∷ 113 ∷ 114 ∷ []

abbrev pub vni_types : List ℕ
vni_types = 120 ∷ 121 ∷ 122 ∷ []

-- the types of tables that are joined, in the order in which `netlink_route` joins them
abbrev pub rule_or_table_types : List ℕ
rule_or_table_types = rule_types ++ neighbour_table_types

abbrev pub namespace_or_hop_types : List ℕ
namespace_or_hop_types = namespace_types ++ next_hop_types

abbrev pub last_types : List ℕ
last_types = namespace_or_hop_types ++ (configuration_types ++ prefix_types)

abbrev pub more_types : List ℕ
more_types = rule_or_table_types ++ last_types

abbrev pub controlled_types : List ℕ
controlled_types = traffic_types ++ action_types

abbrev pub group_or_statistics_types : List ℕ
group_or_statistics_types = group_types ++ statistics_types

-- the line of a message that is about multicast groups of a bridge or statistics of a link
abbrev pub group_or_statistics_line : List Known → ℕ → List ℕ → Option (List ℕ)
group_or_statistics_line known t payload =
    if has_type group_types t then Some (group_line known t payload)
    else if has_type statistics_types t then Some (statistics_line known t payload)
    else None

-- that is about VLANs of a bridge or VNIs of a VXLAN link
abbrev pub vlan_or_vni_line : List Known → ℕ → List ℕ → Option (List ℕ)
vlan_or_vni_line known t payload =
    if has_type vlan_types t then Some (vlan_line known t payload)
    else if has_type vni_types t then Some (vni_line known t payload)
    else None

-- that is about one of these four
unfoldable pub bridge_line : List Known → ℕ → List ℕ → Option (List ℕ)
bridge_line known t payload =
    if has_type group_or_statistics_types t then group_or_statistics_line known t payload
    else vlan_or_vni_line known t payload

-- that is about traffic control or its actions
abbrev pub controlled_line : List Known → ℕ → List ℕ → Option (List ℕ)
controlled_line known t payload =
    if has_type traffic_types t then Some (traffic_line known t payload)
    else if has_type action_types t then Some (action_line t payload)
    else None

-- that is about an id of a namespace or a next hop
abbrev pub namespace_or_hop_line : List Known → ℕ → List ℕ → Option (List ℕ)
namespace_or_hop_line known t payload =
    if has_type namespace_types t then Some (namespace_line t payload)
    else if has_type next_hop_types t then Some (next_hop_line known t payload)
    else None

-- that is about the settings of a link or a prefix
abbrev pub settings_or_prefix_line : List Known → ℕ → List ℕ → Option (List ℕ)
settings_or_prefix_line known t payload =
    if has_type configuration_types t then Some (configuration_line known t payload)
    else if has_type prefix_types t then Some (prefix_line known payload)
    else None

-- that is about one of these four
unfoldable pub last_line : List Known → ℕ → List ℕ → Option (List ℕ)
last_line known t payload =
    if has_type namespace_or_hop_types t then namespace_or_hop_line known t payload
    else settings_or_prefix_line known t payload

-- that is about a rule or a neighbour table
abbrev pub rule_or_table_line : List Known → ℕ → List ℕ → Option (List ℕ)
rule_or_table_line known t payload =
    if has_type rule_types t then Some (rule_line t payload)
    else if has_type neighbour_table_types t then Some (neighbour_table_line known t payload)
    else None

-- that is about one of these two or of those four
unfoldable pub more_line : List Known → ℕ → List ℕ → Option (List ℕ)
more_line known t payload =
    if has_type rule_or_table_types t then rule_or_table_line known t payload
    else last_line known t payload

-- that is about one of these, about traffic control, or about a bridge
abbrev pub later_line : List Known → ℕ → List ℕ → Option (List ℕ)
later_line known t payload =
    if has_type more_types t then more_line known t payload
    else if has_type controlled_types t then controlled_line known t payload
    else bridge_line known t payload

-- the line of a message that is about neither a link nor an address
abbrev pub other_line : List Known → ℕ → List ℕ → Option (List ℕ)
other_line known t payload =
    if has_type neighbour_types t then Some (neighbour_line known t payload)
    else if has_type route_types t then route_entry_line known t payload
    else later_line known t payload

-- the line of a message type and a payload, if it has one, by the known names of links
unfoldable pub route_line : List Known → ℕ × List ℕ → Option (List ℕ)
route_line known (t, payload) =
    if has_type link_types t then Some (link_line known t payload)
    else if has_type address_types t then Some (address_line known t payload)
    else other_line known t payload

-- the names of links after a message of this type and payload
unfoldable pub known_by : ℕ × List ℕ → List Known → List Known
known_by (t, payload) known = if has_type link_types t then link_known t payload known else known
