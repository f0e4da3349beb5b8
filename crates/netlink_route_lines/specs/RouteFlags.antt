-- The flags of routes and next hops, and the preference of a router.
use Rattle.std.specs.Prelude.{ℕ, ◌==◌, List, [], ◌∷◌, Option, Some, None, codes, decimal, if◌then◌else◌}
use Rattle.std.specs.Int.Bits.{bit_and}
use Rattle.std.specs.List.{fold}
use Rattle.netlink_words.specs.Parts.{with_part}

-- ICMPV6_ROUTER_PREF_* of linux/icmpv6.h
abbrev pub preference_text : ℕ → List ℕ
preference_text n =
    if n == 0 then codes "pref medium"
    else if n == 1 then codes "pref high"
    else if n == 3 then codes "pref low"
    else decimal n

abbrev pub preference_part : Option ℕ → List ℕ
preference_part None = []
preference_part (Some preference) = preference_text preference

-- the flags of a route and a next hop, in the order of `ip`
abbrev pub hop_flag_order : List ℕ
hop_flag_order =
    0x1 ∷ 0x4 ∷ 0x2 ∷ 0x8 ∷ 0x40 ∷ 0x100 ∷ 0x10 ∷ 0x20 ∷ 0x4000 ∷ 0x8000 ∷ 0x20000000 ∷ []

unfoldable pub hop_flag_name : ℕ → List ℕ
hop_flag_name bit =
    if bit == 0x1 then codes "dead"
    else if bit == 0x4 then codes "onlink"
    else if bit == 0x2 then codes "pervasive"
    else if bit == 0x8 then codes "offload"
    else if bit == 0x40 then codes "trap"
    else if bit == 0x100 then codes "notify"
    else if bit == 0x10 then codes "linkdown"
    else if bit == 0x20 then codes "unresolved"
    else if bit == 0x4000 then codes "rt_offload"
    else if bit == 0x8000 then codes "rt_trap"
    else if bit == 0x20000000 then codes "rt_offload_failed"
    else []

-- a text, followed by the name of a flag if that is set
abbrev pub with_hop_flag : ℕ → List ℕ → ℕ → List ℕ
with_hop_flag flags text bit =
    if bit_and flags bit == 0 then text else with_part text (hop_flag_name bit)

-- the names of the flags that are set
unfoldable pub hop_flags_text : ℕ → List ℕ
hop_flags_text flags = fold (with_hop_flag flags) [] hop_flag_order
