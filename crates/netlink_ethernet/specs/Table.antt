-- The Ethernet protocols that have names: the number and the printed name of each.
use Rattle.std.specs.Prelude.{ℕ, List, [], ◌∷◌, ◌++◌, codes, map, false, ⊤, ◌==◌, if◌then◌else◌}
use Rattle.std.specs.Fmt.{digits}
use Rattle.std.specs.List.{Contains}
use Rattle.netlink_ethernet.specs.declared.protocol.EthernetProtocol.{EthernetProtocol}
use Rattle.netlink_ethernet.specs.declared.protocol.EthernetProtocol.TheVariants.{Loop, Pup, Pupat, Tsn, Erspan2, Ip, X25, Arp, Bpq, IeeePup, IeeePupat, Batman, Dec, DnaDl, DnaRc, DnaRt, Lat, Diag, Cust, Sca, Teb, Rarp, Atalk, Aarp, E8021Q, Erspan, Ipx, Ipv6, Pause, Slow, Wccp, MplsUc, MplsMc, Atmmpoa, PppDisc, PppSes, LinkCtl, Atmfate, Pae, Profinet, Realtek, Aoe, Ethercat, E8021Ad, E802Ex1, MxlGsw, Preauth, Tipc, Lldp, Mrp, Macsec, E8021Ah, Mvrp, E1588, Ncsi, Prp, Cfm, Fcoe, Iboe, Tdls, Fip, E80221, Hsr, Nsh, Loopback, Qinq1, Qinq2, Qinq3, Yt921x, Edsa, Dsa8021Q, DsaA5psw, Ife, AfIucv, E802_3, Ax25, All, E802_2, Snap, Ddcmp, WanPpp, PppMp, Localtalk, Can, Canfd, Canxl, Ppptalk, Tr802_2, Mobitex, Control, Irda, Econet, Hdlc, Arcnet, Dsa, Trailer, Phonet, Ieee802154, Caif, Xdsa, Map, Mctp, Other}

pub record Row : Type 0 where
  pub number : ℕ
  pub name : List ℕ

abbrev pub row : ℕ → List ℕ → Row
row number name = record { number = number; name = name }

-- a number in hexadecimal: 0x and its lowercase digits, without leading zeros
abbrev pub hexadecimal : ℕ → List ℕ
hexadecimal n = codes "0x" ++ digits 16 false n

-- the table: each protocol's number and its printed name, after linux/if_ether.h
abbrev pub row_of : EthernetProtocol → Row
row_of Loop = row 0x0060 (codes "loop")
row_of Pup = row 0x0200 (codes "pup")
row_of Pupat = row 0x0201 (codes "pupat")
row_of Tsn = row 0x22f0 (codes "tsn")
row_of Erspan2 = row 0x22eb (codes "erspan2")
row_of Ip = row 0x0800 (codes "ip")
row_of X25 = row 0x0805 (codes "x25")
row_of Arp = row 0x0806 (codes "arp")
row_of Bpq = row 0x08ff (codes "bpq")
row_of IeeePup = row 0x0a00 (codes "ieeepup")
row_of IeeePupat = row 0x0a01 (codes "ieeepupat")
row_of Batman = row 0x4305 (codes "batman")
row_of Dec = row 0x6000 (codes "dec")
row_of DnaDl = row 0x6001 (codes "dna_dl")
row_of DnaRc = row 0x6002 (codes "dna_rc")
row_of DnaRt = row 0x6003 (codes "dna_rt")
row_of Lat = row 0x6004 (codes "lat")
row_of Diag = row 0x6005 (codes "diag")
row_of Cust = row 0x6006 (codes "cust")
row_of Sca = row 0x6007 (codes "sca")
row_of Teb = row 0x6558 (codes "teb")
row_of Rarp = row 0x8035 (codes "rarp")
row_of Atalk = row 0x809b (codes "atalk")
row_of Aarp = row 0x80f3 (codes "aarp")
row_of E8021Q = row 0x8100 (codes "8021q")
row_of Erspan = row 0x88be (codes "erspan")
row_of Ipx = row 0x8137 (codes "ipx")
row_of Ipv6 = row 0x86dd (codes "ipv6")
row_of Pause = row 0x8808 (codes "pause")
row_of Slow = row 0x8809 (codes "slow")
row_of Wccp = row 0x883e (codes "wccp")
row_of MplsUc = row 0x8847 (codes "mpls_uc")
row_of MplsMc = row 0x8848 (codes "mpls_mc")
row_of Atmmpoa = row 0x884c (codes "atmmpoa")
row_of PppDisc = row 0x8863 (codes "ppp_disc")
row_of PppSes = row 0x8864 (codes "ppp_ses")
row_of LinkCtl = row 0x886c (codes "link_ctl")
row_of Atmfate = row 0x8884 (codes "atmfate")
row_of Pae = row 0x888e (codes "pae")
row_of Profinet = row 0x8892 (codes "profinet")
row_of Realtek = row 0x8899 (codes "realtek")
row_of Aoe = row 0x88a2 (codes "aoe")
row_of Ethercat = row 0x88a4 (codes "ethercat")
row_of E8021Ad = row 0x88a8 (codes "8021ad")
row_of E802Ex1 = row 0x88b5 (codes "802_ex1")
row_of MxlGsw = row 0x88c3 (codes "mxl_gsw")
row_of Preauth = row 0x88c7 (codes "preauth")
row_of Tipc = row 0x88ca (codes "tipc")
row_of Lldp = row 0x88cc (codes "lldp")
row_of Mrp = row 0x88e3 (codes "mrp")
row_of Macsec = row 0x88e5 (codes "macsec")
row_of E8021Ah = row 0x88e7 (codes "8021ah")
row_of Mvrp = row 0x88f5 (codes "mvrp")
row_of E1588 = row 0x88f7 (codes "1588")
row_of Ncsi = row 0x88f8 (codes "ncsi")
row_of Prp = row 0x88fb (codes "prp")
row_of Cfm = row 0x8902 (codes "cfm")
row_of Fcoe = row 0x8906 (codes "fcoe")
row_of Iboe = row 0x8915 (codes "iboe")
row_of Tdls = row 0x890d (codes "tdls")
row_of Fip = row 0x8914 (codes "fip")
row_of E80221 = row 0x8917 (codes "80221")
row_of Hsr = row 0x892f (codes "hsr")
row_of Nsh = row 0x894f (codes "nsh")
row_of Loopback = row 0x9000 (codes "loopback")
row_of Qinq1 = row 0x9100 (codes "qinq1")
row_of Qinq2 = row 0x9200 (codes "qinq2")
row_of Qinq3 = row 0x9300 (codes "qinq3")
row_of Yt921x = row 0x9988 (codes "yt921x")
row_of Edsa = row 0xdada (codes "edsa")
row_of Dsa8021Q = row 0xdadb (codes "dsa_8021q")
row_of DsaA5psw = row 0xe001 (codes "dsa_a5psw")
row_of Ife = row 0xed3e (codes "ife")
row_of AfIucv = row 0xfbfb (codes "af_iucv")
row_of E802_3 = row 0x0001 (codes "802_3")
row_of Ax25 = row 0x0002 (codes "ax25")
row_of All = row 0x0003 (codes "all")
row_of E802_2 = row 0x0004 (codes "802_2")
row_of Snap = row 0x0005 (codes "snap")
row_of Ddcmp = row 0x0006 (codes "ddcmp")
row_of WanPpp = row 0x0007 (codes "wan_ppp")
row_of PppMp = row 0x0008 (codes "ppp_mp")
row_of Localtalk = row 0x0009 (codes "localtalk")
row_of Can = row 0x000c (codes "can")
row_of Canfd = row 0x000d (codes "canfd")
row_of Canxl = row 0x000e (codes "canxl")
row_of Ppptalk = row 0x0010 (codes "ppptalk")
row_of Tr802_2 = row 0x0011 (codes "tr_802_2")
row_of Mobitex = row 0x0015 (codes "mobitex")
row_of Control = row 0x0016 (codes "control")
row_of Irda = row 0x0017 (codes "irda")
row_of Econet = row 0x0018 (codes "econet")
row_of Hdlc = row 0x0019 (codes "hdlc")
row_of Arcnet = row 0x001a (codes "arcnet")
row_of Dsa = row 0x001b (codes "dsa")
row_of Trailer = row 0x001c (codes "trailer")
row_of Phonet = row 0x00f5 (codes "phonet")
row_of Ieee802154 = row 0x00f6 (codes "ieee802154")
row_of Caif = row 0x00f7 (codes "caif")
row_of Xdsa = row 0x00f8 (codes "xdsa")
row_of Map = row 0x00f9 (codes "map")
row_of Mctp = row 0x00fa (codes "mctp")
row_of (Other n) = row n (hexadecimal n)

abbrev pub number_of : EthernetProtocol → ℕ
number_of p = (row_of p).number

abbrev pub name_of : EthernetProtocol → List ℕ
name_of p = (row_of p).name

-- the 102 protocols that have names, by ascending number
unfoldable pub named : List EthernetProtocol
named =
    E802_3 ∷ Ax25 ∷ All ∷ E802_2 ∷ Snap ∷ Ddcmp ∷ WanPpp ∷ PppMp ∷
    Localtalk ∷ Can ∷ Canfd ∷ Canxl ∷ Ppptalk ∷ Tr802_2 ∷ Mobitex ∷ Control ∷
    Irda ∷ Econet ∷ Hdlc ∷ Arcnet ∷ Dsa ∷ Trailer ∷ Loop ∷ Phonet ∷
    Ieee802154 ∷ Caif ∷ Xdsa ∷ Map ∷ Mctp ∷ Pup ∷ Pupat ∷ Ip ∷
    X25 ∷ Arp ∷ Bpq ∷ IeeePup ∷ IeeePupat ∷ Erspan2 ∷ Tsn ∷ Batman ∷
    Dec ∷ DnaDl ∷ DnaRc ∷ DnaRt ∷ Lat ∷ Diag ∷ Cust ∷ Sca ∷
    Teb ∷ Rarp ∷ Atalk ∷ Aarp ∷ E8021Q ∷ Ipx ∷ Ipv6 ∷ Pause ∷
    Slow ∷ Wccp ∷ MplsUc ∷ MplsMc ∷ Atmmpoa ∷ PppDisc ∷ PppSes ∷ LinkCtl ∷
    Atmfate ∷ Pae ∷ Profinet ∷ Realtek ∷ Aoe ∷ Ethercat ∷ E8021Ad ∷ E802Ex1 ∷
    Erspan ∷ MxlGsw ∷ Preauth ∷ Tipc ∷ Lldp ∷ Mrp ∷ Macsec ∷ E8021Ah ∷
    Mvrp ∷ E1588 ∷ Ncsi ∷ Prp ∷ Cfm ∷ Fcoe ∷ Tdls ∷ Fip ∷
    Iboe ∷ E80221 ∷ Hsr ∷ Nsh ∷ Loopback ∷ Qinq1 ∷ Qinq2 ∷ Qinq3 ∷
    Yt921x ∷ Edsa ∷ Dsa8021Q ∷ DsaA5psw ∷ Ife ∷ AfIucv ∷
    []

-- their numbers, in ascending order
unfoldable pub numbers : List ℕ
numbers = map number_of named

-- the first protocol with the number, or else `Other` with it
unfoldable pub first_with : ℕ → List EthernetProtocol → EthernetProtocol
first_with n [] = Other n
first_with n (p ∷ ps) = if number_of p == n then p else first_with n ps

-- the protocol of a number
unfoldable pub protocol_of : ℕ → EthernetProtocol
protocol_of n = first_with n named

abbrev pub IsOther : EthernetProtocol → Type 0
IsOther (Other n) = ⊤
IsOther _ = ⊥

-- the protocol is not `Other` with a number that has a name
abbrev pub IsProper : EthernetProtocol → Type 0
IsProper (Other n) = ¬ Contains numbers n
IsProper _ = ⊤
