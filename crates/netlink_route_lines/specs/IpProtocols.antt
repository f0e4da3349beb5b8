-- The names of IP protocols, the first of each number in Debian's /etc/protocols.
use Rattle.std.specs.Prelude.{ℕ, ◌==◌, List, [], nat_lt, codes, if◌then◌else◌}

-- of the protocols up to 40
unfoldable pub early_protocol : ℕ → List ℕ
early_protocol n =
    if n == 0 then codes "ip"
    else if n == 1 then codes "icmp"
    else if n == 2 then codes "igmp"
    else if n == 3 then codes "ggp"
    else if n == 4 then codes "ipencap"
    else if n == 5 then codes "st"
    else if n == 6 then codes "tcp"
    else if n == 8 then codes "egp"
    else if n == 9 then codes "igp"
    else if n == 12 then codes "pup"
    else if n == 17 then codes "udp"
    else if n == 20 then codes "hmp"
    else if n == 22 then codes "xns-idp"
    else if n == 27 then codes "rdp"
    else if n == 29 then codes "iso-tp4"
    else if n == 33 then codes "dccp"
    else if n == 36 then codes "xtp"
    else if n == 37 then codes "ddp"
    else if n == 38 then codes "idpr-cmtp"
    else []

-- of those from 41 to 99
unfoldable pub middle_protocol : ℕ → List ℕ
middle_protocol n =
    if n == 41 then codes "ipv6"
    else if n == 43 then codes "ipv6-route"
    else if n == 44 then codes "ipv6-frag"
    else if n == 45 then codes "idrp"
    else if n == 46 then codes "rsvp"
    else if n == 47 then codes "gre"
    else if n == 50 then codes "esp"
    else if n == 51 then codes "ah"
    else if n == 57 then codes "skip"
    else if n == 58 then codes "ipv6-icmp"
    else if n == 59 then codes "ipv6-nonxt"
    else if n == 60 then codes "ipv6-opts"
    else if n == 73 then codes "rspf"
    else if n == 81 then codes "vmtp"
    else if n == 88 then codes "eigrp"
    else if n == 89 then codes "ospf"
    else if n == 93 then codes "ax.25"
    else if n == 94 then codes "ipip"
    else if n == 97 then codes "etherip"
    else if n == 98 then codes "encap"
    else []

-- of those from 100 on
unfoldable pub late_protocol : ℕ → List ℕ
late_protocol n =
    if n == 103 then codes "pim"
    else if n == 108 then codes "ipcomp"
    else if n == 112 then codes "vrrp"
    else if n == 115 then codes "l2tp"
    else if n == 124 then codes "isis"
    else if n == 132 then codes "sctp"
    else if n == 133 then codes "fc"
    else if n == 135 then codes "mobility-header"
    else if n == 136 then codes "udplite"
    else if n == 137 then codes "mpls-in-ip"
    else if n == 138 then codes "manet"
    else if n == 139 then codes "hip"
    else if n == 140 then codes "shim6"
    else if n == 141 then codes "wesp"
    else if n == 142 then codes "rohc"
    else if n == 143 then codes "ethernet"
    else []

-- the name of a protocol; nothing for a number without one
unfoldable pub ip_protocol_name : ℕ → List ℕ
ip_protocol_name n =
    if nat_lt n 41 then early_protocol n
    else if nat_lt n 100 then middle_protocol n
    else late_protocol n
