-- The names of the types of devices (ARPHRD_* of linux/if_arp.h).
use Rattle.std.specs.Prelude.{ℕ, ◌==◌, ◌-◌, List, [], ◌∷◌, ◌++◌, nat_lt, codes, decimal, if◌then◌else◌}

-- of the types below 256
unfoldable pub low_name : ℕ → List ℕ
low_name n =
    if n == 0 then codes "netrom"
    else if n == 1 then codes "ether"
    else if n == 2 then codes "eether"
    else if n == 3 then codes "ax25"
    else if n == 4 then codes "pronet"
    else if n == 5 then codes "chaos"
    else if n == 6 then codes "ieee802"
    else if n == 7 then codes "arcnet"
    else if n == 8 then codes "atalk"
    else if n == 15 then codes "dlci"
    else if n == 19 then codes "atm"
    else if n == 23 then codes "metricom"
    else if n == 24 then codes "ieee1394"
    else if n == 32 then codes "infiniband"
    else []

-- of those from 256 to 767
unfoldable pub line_name : ℕ → List ℕ
line_name n =
    if n == 256 then codes "slip"
    else if n == 257 then codes "cslip"
    else if n == 258 then codes "slip6"
    else if n == 259 then codes "cslip6"
    else if n == 260 then codes "rsrvd"
    else if n == 264 then codes "adapt"
    else if n == 270 then codes "rose"
    else if n == 271 then codes "x25"
    else if n == 272 then codes "hwx25"
    else if n == 280 then codes "can"
    else if n == 512 then codes "ppp"
    else if n == 513 then codes "hdlc"
    else if n == 516 then codes "lapb"
    else if n == 517 then codes "ddcmp"
    else if n == 518 then codes "rawhdlc"
    else []

-- of those from 768 to 786
unfoldable pub tunnel_name : ℕ → List ℕ
tunnel_name n =
    if n == 768 then codes "ipip"
    else if n == 769 then codes "tunnel6"
    else if n == 770 then codes "frad"
    else if n == 771 then codes "skip"
    else if n == 772 then codes "loopback"
    else if n == 773 then codes "ltalk"
    else if n == 774 then codes "fddi"
    else if n == 775 then codes "bif"
    else if n == 776 then codes "sit"
    else if n == 777 then codes "ip/ddp"
    else if n == 778 then codes "gre"
    else if n == 779 then codes "pimreg"
    else if n == 780 then codes "hippi"
    else if n == 781 then codes "ash"
    else if n == 782 then codes "econet"
    else if n == 783 then codes "irda"
    else if n == 784 then codes "fcpp"
    else if n == 785 then codes "fcal"
    else if n == 786 then codes "fcpl"
    else []

-- of those from 800
unfoldable pub late_name : ℕ → List ℕ
late_name n =
    if n == 800 then codes "tr"
    else if n == 801 then codes "ieee802.11"
    else if n == 802 then codes "ieee802.11/prism"
    else if n == 803 then codes "ieee802.11/radiotap"
    else if n == 804 then codes "ieee802.15.4"
    else if n == 805 then codes "ieee802.15.4/monitor"
    else if n == 820 then codes "phonet"
    else if n == 821 then codes "phonet_pipe"
    else if n == 822 then codes "caif"
    else if n == 823 then codes "gre6"
    else if n == 824 then codes "netlink"
    else if n == 825 then codes "6lowpan"
    else if n == 65534 then codes "none"
    else if n == 65535 then codes "void"
    else []

unfoldable pub hardware_name : ℕ → List ℕ
hardware_name n =
    if nat_lt n 256 then low_name n
    else if nat_lt n 768 then line_name n
    else if nat_lt n 800 then tunnel_name n
    else late_name n

-- a name, or a number in brackets
abbrev pub name_or_brackets : ℕ → List ℕ → List ℕ
name_or_brackets n [] = codes "[" ++ (decimal n ++ codes "]")
name_or_brackets n (b ∷ name) = b ∷ name

-- the name of a type; fabrics are numbered
unfoldable pub hardware_text : ℕ → List ℕ
hardware_text n =
    if nat_lt n 787 then name_or_brackets n (hardware_name n)
    else if nat_lt n 800 then codes "fcfb" ++ decimal (n - 787)
    else name_or_brackets n (hardware_name n)
