-- What is printed besides the lines.
use Rattle.std.specs.Prelude.{ℕ, ◌==◌, ◌&&◌, ◌/◌, Bool, false, List, [], ◌++◌, codes, if◌then◌else◌}
use Rattle.netlink_lines.specs.Families.{family_of}
use Rattle.netlink_lines.specs.declared.options.Options.{Options}
use Rattle.netlink_route_lines.specs.Multicast.{is_multicast}

-- the lines of a message, and whether it is malformed
abbrev pub Lines : Type 0
Lines = List ℕ × Bool

-- the lines alone
abbrev pub plain : Options
plain = record { labels = false; times = false; bytes = false; json = false }

-- the label of a message type, as `ip monitor label` or `bridge monitor all` prints it, by its group of four types
abbrev pub label_in : ℕ → List ℕ
label_in group =
    if group == 4 then codes "[LINK]"
    else if group == 5 then codes "[ADDR]"
    else if group == 6 then codes "[ROUTE]"
    else if group == 7 then codes "[NEIGH]"
    else if group == 8 then codes "[RULE]"
    else if group == 13 then codes "[PREFIX]"
    else if group == 20 then codes "[NETCONF]"
    else if group == 21 then codes "[MDB]"
    else if group == 22 then codes "[NSID]"
    else if group == 23 then codes "[STATS]"
    else if group == 26 then codes "[NEXTHOP]"
    else if group == 28 then codes "[VLAN]"
    else if group == 29 then codes "[NEXTHOPBUCKET]"
    else if group == 30 then codes "[TUNNEL]"
    else []

-- routes of multicast routing have a label of their own
abbrev pub label_of : ℕ → List ℕ → List ℕ
label_of t payload =
    if t / 4 == 6 && is_multicast (family_of payload) then codes "[MROUTE]" else label_in (t / 4)

-- the line of a message of this type and payload, after its label if that is asked for
abbrev pub labelled : Options → ℕ → List ℕ → List ℕ → List ℕ
labelled options t payload line = (if options.labels then label_of t payload else []) ++ line
