-- The flags of route netlink: their bits and their names.
use Rattle.std.specs.Prelude.{ℕ, List, [], ◌∷◌, codes}

-- the flags of a link (ifi_flags; IFF_* of linux/if.h)
unfoldable pub link_flags : List (ℕ × List ℕ)
link_flags =
    (0x1, codes "UP")
    ∷ (0x2, codes "BROADCAST")
    ∷ (0x4, codes "DEBUG")
    ∷ (0x8, codes "LOOPBACK")
    ∷ (0x10, codes "POINTOPOINT")
    ∷ (0x20, codes "NOTRAILERS")
    ∷ (0x40, codes "RUNNING")
    ∷ (0x80, codes "NOARP")
    ∷ (0x100, codes "PROMISC")
    ∷ (0x200, codes "ALLMULTI")
    ∷ (0x400, codes "MASTER")
    ∷ (0x800, codes "SLAVE")
    ∷ (0x1000, codes "MULTICAST")
    ∷ (0x2000, codes "PORTSEL")
    ∷ (0x4000, codes "AUTOMEDIA")
    ∷ (0x8000, codes "DYNAMIC")
    ∷ (0x10000, codes "LOWER_UP")
    ∷ (0x20000, codes "DORMANT")
    ∷ (0x40000, codes "ECHO")
    ∷ []

-- the flags of an address (IFA_FLAGS and ifa_flags; IFA_F_* of linux/if_addr.h)
unfoldable pub address_flags : List (ℕ × List ℕ)
address_flags =
    (0x1, codes "secondary")
    ∷ (0x2, codes "nodad")
    ∷ (0x4, codes "optimistic")
    ∷ (0x8, codes "dadfailed")
    ∷ (0x10, codes "home")
    ∷ (0x20, codes "deprecated")
    ∷ (0x40, codes "tentative")
    ∷ (0x80, codes "permanent")
    ∷ (0x100, codes "mngtmpaddr")
    ∷ (0x200, codes "noprefixroute")
    ∷ (0x400, codes "autojoin")
    ∷ (0x800, codes "stable-privacy")
    ∷ []

-- the flags of a neighbour (ndm_flags; NTF_* of linux/neighbour.h)
unfoldable pub neighbour_flags : List (ℕ × List ℕ)
neighbour_flags =
    (0x1, codes "use")
    ∷ (0x2, codes "self")
    ∷ (0x4, codes "master")
    ∷ (0x8, codes "proxy")
    ∷ (0x10, codes "extern_learn")
    ∷ (0x20, codes "offload")
    ∷ (0x40, codes "sticky")
    ∷ (0x80, codes "router")
    ∷ []

-- the further flags of a neighbour (NDA_FLAGS_EXT; NTF_EXT_* of linux/neighbour.h)
unfoldable pub neighbour_extended_flags : List (ℕ × List ℕ)
neighbour_extended_flags =
    (0x1, codes "managed")
    ∷ (0x2, codes "locked")
    ∷ []

-- the flags of a route (rtm_flags; RTNH_F_* and RTM_F_* of linux/rtnetlink.h)
unfoldable pub route_flags : List (ℕ × List ℕ)
route_flags =
    (0x1, codes "dead")
    ∷ (0x2, codes "pervasive")
    ∷ (0x4, codes "onlink")
    ∷ (0x8, codes "offload")
    ∷ (0x10, codes "linkdown")
    ∷ (0x20, codes "unresolved")
    ∷ (0x40, codes "trap")
    ∷ (0x100, codes "notify")
    ∷ (0x200, codes "cloned")
    ∷ (0x400, codes "equalize")
    ∷ (0x800, codes "prefix")
    ∷ (0x1000, codes "lookup_table")
    ∷ (0x2000, codes "fib_match")
    ∷ (0x4000, codes "rt_offload")
    ∷ (0x8000, codes "rt_trap")
    ∷ (0x20000000, codes "rt_offload_failed")
    ∷ []

-- the flags of a next hop (rtnh_flags; RTNH_F_* of linux/rtnetlink.h)
unfoldable pub next_hop_flags : List (ℕ × List ℕ)
next_hop_flags =
    (0x1, codes "dead")
    ∷ (0x2, codes "pervasive")
    ∷ (0x4, codes "onlink")
    ∷ (0x8, codes "offload")
    ∷ (0x10, codes "linkdown")
    ∷ (0x20, codes "unresolved")
    ∷ (0x40, codes "trap")
    ∷ []

-- the flags of a rule (flags of struct fib_rule_hdr; FIB_RULE_* of linux/fib_rules.h)
unfoldable pub rule_flags : List (ℕ × List ℕ)
rule_flags =
    (0x1, codes "permanent")
    ∷ (0x2, codes "not")
    ∷ (0x4, codes "unresolved")
    ∷ (0x8, codes "iif_detached")
    ∷ (0x10, codes "oif_detached")
    ∷ (0x10000, codes "find_saddr")
    ∷ []
