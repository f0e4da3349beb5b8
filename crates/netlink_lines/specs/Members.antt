-- The members of the object of a message of route netlink, and the names of its types.
use Rattle.std.specs.Prelude.{ℕ, ◌==◌, List, [], codes, if◌then◌else◌}
use Rattle.netlink_family.specs.Shapes.{has_type}
use Rattle.netlink_json.specs.Fields.{Field}
use Rattle.netlink_lines.specs.Lines.{address_types, configuration_types, link_types, more_types, namespace_or_hop_types, namespace_types, neighbour_table_types, neighbour_types, next_hop_types, prefix_types, route_types, rule_or_table_types, rule_types}
use Rattle.netlink_names.specs.declared.device.Known.{Known}
use Rattle.netlink_objects.specs.Address.{address_parts}
use Rattle.netlink_objects.specs.Link.{link_parts}
use Rattle.netlink_objects.specs.Namespace.{namespace_parts}
use Rattle.netlink_objects.specs.Neighbour.{neighbour_parts}
use Rattle.netlink_objects.specs.NeighbourTable.{neighbour_table_parts}
use Rattle.netlink_objects.specs.NetworkConfiguration.{configuration_parts}
use Rattle.netlink_objects.specs.NextHopObject.{next_hop_parts}
use Rattle.netlink_objects.specs.Prefix.{prefix_parts}
use Rattle.netlink_objects.specs.Route.{route_parts as route_members}
use Rattle.netlink_objects.specs.Rule.{rule_parts}

-- the members of a message that is about an id of a network namespace or a next hop
abbrev pub namespace_or_hop_parts : List Known → ℕ → List ℕ → List (List Field)
namespace_or_hop_parts known t payload =
    if has_type namespace_types t then namespace_parts t payload
    else if has_type next_hop_types t then next_hop_parts known t payload
    else []

-- that is about the settings of a link or a prefix
abbrev pub settings_or_prefix_parts : List Known → ℕ → List ℕ → List (List Field)
settings_or_prefix_parts known t payload =
    if has_type configuration_types t then configuration_parts known t payload
    else if has_type prefix_types t then prefix_parts known payload
    else []

-- that is about one of these four
unfoldable pub last_parts : List Known → ℕ → List ℕ → List (List Field)
last_parts known t payload =
    if has_type namespace_or_hop_types t then namespace_or_hop_parts known t payload
    else settings_or_prefix_parts known t payload

-- that is about a rule or a neighbour table
abbrev pub rule_or_table_parts : List Known → ℕ → List ℕ → List (List Field)
rule_or_table_parts known t payload =
    if has_type rule_types t then rule_parts t payload
    else if has_type neighbour_table_types t then neighbour_table_parts known t payload
    else []

-- that is about one of these two or of those four
unfoldable pub more_parts : List Known → ℕ → List ℕ → List (List Field)
more_parts known t payload =
    if has_type rule_or_table_types t then rule_or_table_parts known t payload
    else last_parts known t payload

-- that is about one of these; those about traffic control and about bridges have none
abbrev pub later_parts : List Known → ℕ → List ℕ → List (List Field)
later_parts known t payload = if has_type more_types t then more_parts known t payload else []

-- that is about neither a link nor an address
abbrev pub other_parts : List Known → ℕ → List ℕ → List (List Field)
other_parts known t payload =
    if has_type neighbour_types t then neighbour_parts known t payload
    else if has_type route_types t then route_members known t payload
    else later_parts known t payload

-- the members of a message type and a payload, by the known names of links
unfoldable pub route_parts : List Known → ℕ × List ℕ → List (List Field)
route_parts known (t, payload) =
    if has_type link_types t then link_parts known t payload
    else if has_type address_types t then address_parts known t payload
    else other_parts known t payload

-- RTM_* of linux/rtnetlink.h
unfoldable pub message_name : ℕ → List ℕ
message_name t =
    if t == 16 then codes "RTM_NEWLINK"
    else if t == 17 then codes "RTM_DELLINK"
    else if t == 18 then codes "RTM_GETLINK"
    else if t == 19 then codes "RTM_SETLINK"
    else if t == 20 then codes "RTM_NEWADDR"
    else if t == 21 then codes "RTM_DELADDR"
    else if t == 22 then codes "RTM_GETADDR"
    else if t == 24 then codes "RTM_NEWROUTE"
    else if t == 25 then codes "RTM_DELROUTE"
    else if t == 26 then codes "RTM_GETROUTE"
    else if t == 28 then codes "RTM_NEWNEIGH"
    else if t == 29 then codes "RTM_DELNEIGH"
    else if t == 30 then codes "RTM_GETNEIGH"
    else if t == 32 then codes "RTM_NEWRULE"
    else if t == 33 then codes "RTM_DELRULE"
    else if t == 34 then codes "RTM_GETRULE"
    else if t == 36 then codes "RTM_NEWQDISC"
    else if t == 37 then codes "RTM_DELQDISC"
    else if t == 38 then codes "RTM_GETQDISC"
    else if t == 40 then codes "RTM_NEWTCLASS"
    else if t == 41 then codes "RTM_DELTCLASS"
    else if t == 42 then codes "RTM_GETTCLASS"
    else if t == 44 then codes "RTM_NEWTFILTER"
    else if t == 45 then codes "RTM_DELTFILTER"
    else if t == 46 then codes "RTM_GETTFILTER"
    else if t == 48 then codes "RTM_NEWACTION"
    else if t == 49 then codes "RTM_DELACTION"
    else if t == 50 then codes "RTM_GETACTION"
    else if t == 52 then codes "RTM_NEWPREFIX"
    else if t == 64 then codes "RTM_NEWNEIGHTBL"
    else if t == 66 then codes "RTM_GETNEIGHTBL"
    else if t == 67 then codes "RTM_SETNEIGHTBL"
    else if t == 80 then codes "RTM_NEWNETCONF"
    else if t == 81 then codes "RTM_DELNETCONF"
    else if t == 82 then codes "RTM_GETNETCONF"
    else if t == 84 then codes "RTM_NEWMDB"
    else if t == 85 then codes "RTM_DELMDB"
    else if t == 86 then codes "RTM_GETMDB"
    else if t == 88 then codes "RTM_NEWNSID"
    else if t == 89 then codes "RTM_DELNSID"
    else if t == 90 then codes "RTM_GETNSID"
    else if t == 92 then codes "RTM_NEWSTATS"
    else if t == 94 then codes "RTM_GETSTATS"
    else if t == 95 then codes "RTM_SETSTATS"
    else if t == 100 then codes "RTM_NEWCHAIN"
    else if t == 101 then codes "RTM_DELCHAIN"
    else if t == 102 then codes "RTM_GETCHAIN"
    else if t == 104 then codes "RTM_NEWNEXTHOP"
    else if t == 105 then codes "RTM_DELNEXTHOP"
    else if t == 106 then codes "RTM_GETNEXTHOP"
    else if t == 112 then codes "RTM_NEWVLAN"
    else if t == 113 then codes "RTM_DELVLAN"
    else if t == 114 then codes "RTM_GETVLAN"
    else if t == 116 then codes "RTM_NEWNEXTHOPBUCKET"
    else if t == 117 then codes "RTM_DELNEXTHOPBUCKET"
    else if t == 118 then codes "RTM_GETNEXTHOPBUCKET"
    else if t == 120 then codes "RTM_NEWTUNNEL"
    else if t == 121 then codes "RTM_DELTUNNEL"
    else if t == 122 then codes "RTM_GETTUNNEL"
    else []
