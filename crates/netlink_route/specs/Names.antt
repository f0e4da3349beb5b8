-- The names of numbers, as `ip` prints them.
use Rattle.std.specs.Prelude.{ℕ, ◌==◌, List, Option, Some, None, codes, decimal, if◌then◌else◌}

-- the text of a number that may have a name
abbrev pub name_or_number : Option (List ℕ) → ℕ → List ℕ
name_or_number (Some name) n = name
name_or_number None n = decimal n

-- IF_OPER_* of linux/if.h
abbrev pub oper_state_name : ℕ → Option (List ℕ)
oper_state_name n =
    if n == 0 then Some (codes "UNKNOWN")
    else if n == 1 then Some (codes "NOTPRESENT")
    else if n == 2 then Some (codes "DOWN")
    else if n == 3 then Some (codes "LOWERLAYERDOWN")
    else if n == 4 then Some (codes "TESTING")
    else if n == 5 then Some (codes "DORMANT")
    else if n == 6 then Some (codes "UP")
    else None

-- RT_SCOPE_* of linux/rtnetlink.h
abbrev pub scope_name : ℕ → Option (List ℕ)
scope_name n =
    if n == 0 then Some (codes "global")
    else if n == 200 then Some (codes "site")
    else if n == 253 then Some (codes "link")
    else if n == 254 then Some (codes "host")
    else if n == 255 then Some (codes "nowhere")
    else None

-- RTN_* of linux/rtnetlink.h
abbrev pub route_type_name : ℕ → Option (List ℕ)
route_type_name n =
    if n == 0 then Some (codes "unspec")
    else if n == 1 then Some (codes "unicast")
    else if n == 2 then Some (codes "local")
    else if n == 3 then Some (codes "broadcast")
    else if n == 4 then Some (codes "anycast")
    else if n == 5 then Some (codes "multicast")
    else if n == 6 then Some (codes "blackhole")
    else if n == 7 then Some (codes "unreachable")
    else if n == 8 then Some (codes "prohibit")
    else if n == 9 then Some (codes "throw")
    else if n == 10 then Some (codes "nat")
    else if n == 11 then Some (codes "xresolve")
    else None

-- RTPROT_* of linux/rtnetlink.h
abbrev pub route_protocol_name : ℕ → Option (List ℕ)
route_protocol_name n =
    if n == 0 then Some (codes "unspec")
    else if n == 1 then Some (codes "redirect")
    else if n == 2 then Some (codes "kernel")
    else if n == 3 then Some (codes "boot")
    else if n == 4 then Some (codes "static")
    else if n == 8 then Some (codes "gated")
    else if n == 9 then Some (codes "ra")
    else if n == 10 then Some (codes "mrt")
    else if n == 11 then Some (codes "zebra")
    else if n == 12 then Some (codes "bird")
    else if n == 13 then Some (codes "dnrouted")
    else if n == 14 then Some (codes "xorp")
    else if n == 15 then Some (codes "ntk")
    else if n == 16 then Some (codes "dhcp")
    else if n == 17 then Some (codes "mrouted")
    else if n == 18 then Some (codes "keepalived")
    else if n == 42 then Some (codes "babel")
    else if n == 99 then Some (codes "openr")
    else if n == 186 then Some (codes "bgp")
    else if n == 187 then Some (codes "isis")
    else if n == 188 then Some (codes "ospf")
    else if n == 189 then Some (codes "rip")
    else if n == 192 then Some (codes "eigrp")
    else None

-- NUD_* of linux/neighbour.h
abbrev pub neighbour_state_name : ℕ → Option (List ℕ)
neighbour_state_name n =
    if n == 0 then Some (codes "NONE")
    else if n == 1 then Some (codes "INCOMPLETE")
    else if n == 2 then Some (codes "REACHABLE")
    else if n == 4 then Some (codes "STALE")
    else if n == 8 then Some (codes "DELAY")
    else if n == 16 then Some (codes "PROBE")
    else if n == 32 then Some (codes "FAILED")
    else if n == 64 then Some (codes "NOARP")
    else if n == 128 then Some (codes "PERMANENT")
    else None
