-- The names of the protocols of packets (ETH_P_* of linux/if_ether.h), as `tc` prints them.
use Rattle.std.specs.Prelude.{ℕ, ◌==◌, List, [], ◌∷◌, ◌++◌, nat_lt, codes, decimal, if◌then◌else◌}

-- of those below 0x100
unfoldable pub short_protocol : ℕ → List ℕ
short_protocol n =
    if n == 1 then codes "802_3"
    else if n == 2 then codes "ax25"
    else if n == 3 then codes "all"
    else if n == 4 then codes "802_2"
    else if n == 5 then codes "snap"
    else if n == 6 then codes "ddcmp"
    else if n == 7 then codes "wan_ppp"
    else if n == 8 then codes "ppp_mp"
    else if n == 9 then codes "localtalk"
    else if n == 12 then codes "can"
    else if n == 16 then codes "ppptalk"
    else if n == 17 then codes "tr_802_2"
    else if n == 21 then codes "mobitex"
    else if n == 22 then codes "control"
    else if n == 23 then codes "irda"
    else if n == 24 then codes "econet"
    else if n == 96 then codes "loop"
    else []

-- of those from 0x100 to 0x7fff
unfoldable pub middle_protocol : ℕ → List ℕ
middle_protocol n =
    if n == 0x200 then codes "pup"
    else if n == 0x201 then codes "pupat"
    else if n == 0x800 then codes "ip"
    else if n == 0x805 then codes "x25"
    else if n == 0x806 then codes "arp"
    else if n == 0x8ff then codes "bpq"
    else if n == 0xa00 then codes "ieeepup"
    else if n == 0xa01 then codes "ieeepupat"
    else if n == 0x6000 then codes "dec"
    else if n == 0x6001 then codes "dna_dl"
    else if n == 0x6002 then codes "dna_rc"
    else if n == 0x6003 then codes "dna_rt"
    else if n == 0x6004 then codes "lat"
    else if n == 0x6005 then codes "diag"
    else if n == 0x6006 then codes "cust"
    else if n == 0x6007 then codes "sca"
    else if n == 0x6558 then codes "teb"
    else []

-- of those from 0x8000 on
unfoldable pub high_protocol : ℕ → List ℕ
high_protocol n =
    if n == 0x8035 then codes "rarp"
    else if n == 0x809b then codes "atalk"
    else if n == 0x80f3 then codes "aarp"
    else if n == 0x8100 then codes "802.1Q"
    else if n == 0x8137 then codes "ipx"
    else if n == 0x86dd then codes "ipv6"
    else if n == 0x8847 then codes "mpls_uc"
    else if n == 0x8848 then codes "mpls_mc"
    else if n == 0x884c then codes "atmmpoa"
    else if n == 0x8863 then codes "ppp_disc"
    else if n == 0x8864 then codes "ppp_ses"
    else if n == 0x8884 then codes "atmfate"
    else if n == 0x8892 then codes "profinet"
    else if n == 0x88a2 then codes "aoe"
    else if n == 0x88a4 then codes "ethercat"
    else if n == 0x88a8 then codes "802.1ad"
    else if n == 0x88ca then codes "tipc"
    else if n == 0x88cc then codes "LLDP"
    else []

-- the name of a protocol; nothing for a number without one
unfoldable pub protocol_name : ℕ → List ℕ
protocol_name n =
    if nat_lt n 0x100 then short_protocol n
    else if nat_lt n 0x8000 then middle_protocol n
    else high_protocol n

-- a name, or a number in brackets if the name is empty
unfoldable pub named_or_number : ℕ → List ℕ → List ℕ
named_or_number n [] = codes "[" ++ (decimal n ++ codes "]")
named_or_number n (b ∷ name) = b ∷ name

unfoldable pub protocol_text : ℕ → List ℕ
protocol_text n = named_or_number n (protocol_name n)
