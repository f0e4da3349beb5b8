-- The names of numbers, as `ip` writes them.
use Rattle.std.specs.Prelude.{ℕ, ◌==◌, ◌||◌, false, List, [], ◌++◌, codes, decimal, if◌then◌else◌}
use Rattle.std.specs.Fmt.{digits}
use Rattle.netlink_route.specs.Names.{name_or_number, route_protocol_name, route_type_name}

-- IF_OPER_* of linux/if.h
abbrev pub state_text : ℕ → List ℕ
state_text n =
    if n == 0 then codes "UNKNOWN"
    else if n == 1 then codes "NOTPRESENT"
    else if n == 2 then codes "DOWN"
    else if n == 3 then codes "LOWERLAYERDOWN"
    else if n == 4 then codes "TESTING"
    else if n == 5 then codes "DORMANT"
    else if n == 6 then codes "UP"
    else codes "0x" ++ digits 16 false n

-- AF_* of linux/socket.h
abbrev pub family_text : ℕ → List ℕ
family_text n =
    if n == 2 then codes "inet"
    else if n == 7 then codes "bridge"
    else if n == 10 then codes "inet6"
    else if n == 17 then codes "link"
    else if n == 28 then codes "mpls"
    else codes "family " ++ decimal n

-- RT_SCOPE_* of linux/rtnetlink.h
abbrev pub scope_text : ℕ → List ℕ
scope_text n =
    if n == 0 then codes "global"
    else if n == 200 then codes "site"
    else if n == 253 then codes "link"
    else if n == 254 then codes "host"
    else if n == 255 then codes "nowhere"
    else decimal n

-- the verb of a message about a link; none for a link that exists, as in a dump
abbrev pub link_verb_text : ℕ → List ℕ
link_verb_text t =
    if t == 17 then codes "Deleted "
    else if t == 18 then codes "Get "
    else if t == 19 then codes "Set "
    else []

-- and of one about an address
abbrev pub address_verb_text : ℕ → List ℕ
address_verb_text t =
    if t == 21 then codes "Deleted " else if t == 22 then codes "Get " else []

-- RT_TABLE_* of linux/rtnetlink.h
unfoldable pub table_text : ℕ → List ℕ
table_text n =
    if n == 253 then codes "default"
    else if n == 254 then codes "main"
    else if n == 255 then codes "local"
    else decimal n

-- RTPROT_*, without two names that are not built into `ip`
unfoldable pub protocol_text : ℕ → List ℕ
protocol_text n =
    if n == 17 || n == 99 then decimal n else name_or_number (route_protocol_name n) n

-- RTN_*
unfoldable pub route_type_text : ℕ → List ℕ
route_type_text n = if n == 0 then codes "none" else name_or_number (route_type_name n) n
