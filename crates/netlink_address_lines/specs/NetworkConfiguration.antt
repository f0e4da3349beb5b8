-- The line of the settings of a link, in the order of `ip netconf show`, by its message type and its payload.
use Rattle.std.specs.Prelude.{ℕ, ℤ, ◌==◌, List, [], ◌∷◌, ◌++◌, slice_index, take, Option, Some, None, codes, decimal, pos, if◌then◌else◌}
use Rattle.std.specs.Int.{cast_unsigned, w32}
use Rattle.std.specs.Option.{option_map}
use Rattle.std.specs.Ordering.{int_eq}
use Rattle.netlink_family.specs.Finding.{first_at}
use Rattle.netlink_packet_core.specs.Numbers.{number_le, signed}
use Rattle.netlink_route.specs.declared.network_configurations.TheConstants.{NETCONFA_FORWARDING, NETCONFA_IFINDEX, NETCONFA_IFINDEX_ALL, NETCONFA_IFINDEX_DEFAULT, NETCONFA_IGNORE_ROUTES_WITH_LINKDOWN, NETCONFA_INPUT, NETCONFA_MC_FORWARDING, NETCONFA_PROXY_NEIGH, NETCONFA_RP_FILTER}
use Rattle.netlink_names.specs.Device.{device_text}
use Rattle.netlink_names.specs.declared.device.Known.{Known}
use Rattle.netlink_words.specs.NumberNames.{family_text}
use Rattle.netlink_words.specs.Parts.{keyed, with_parts}

-- the verb of a message
unfoldable pub configuration_verb : ℕ → List ℕ
configuration_verb t = if t == 81 then codes "Deleted" else if t == 82 then codes "Get" else []

-- the first number of a kind
abbrev pub setting : List ℕ → ℕ → Option ℤ
setting payload kind = option_map (λ value. signed 4 (number_le value)) (first_at 4 payload kind)

-- the link; two numbers below 0 stand for many
unfoldable pub place_part : List Known → Option ℤ → List ℕ
place_part known None = []
place_part known (Some index) =
    if int_eq index NETCONFA_IFINDEX_ALL then codes "all"
    else if int_eq index NETCONFA_IFINDEX_DEFAULT then codes "default"
    else device_text known (cast_unsigned w32 index)

-- the verb, the family and the link
unfoldable pub configuration_front : List Known → ℕ → List ℕ → List (List ℕ)
configuration_front known t payload =
    configuration_verb t
    ∷ family_text (slice_index (take 4 payload) 0)
    ∷ place_part known (setting payload NETCONFA_IFINDEX) ∷ []

abbrev pub on_or_off : ℤ → List ℕ
on_or_off value = if int_eq value (pos 0) then codes "off" else codes "on"

-- a key and `on` or `off`, if there is a value
unfoldable pub switch_part : List ℕ → Option ℤ → List ℕ
switch_part key None = []
switch_part key (Some value) = keyed key (on_or_off value)

-- how the sources of packets are checked
abbrev pub filter_text : ℕ → List ℕ
filter_text n =
    if n == 0 then codes "off"
    else if n == 1 then codes "strict"
    else if n == 2 then codes "loose"
    else decimal n

unfoldable pub filter_part : Option ℤ → List ℕ
filter_part None = []
filter_part (Some value) = keyed (codes "rp_filter") (filter_text (cast_unsigned w32 value))

-- what is forwarded, and how sources are checked
unfoldable pub forwarding_parts : List ℕ → List (List ℕ)
forwarding_parts payload =
    switch_part (codes "forwarding") (setting payload NETCONFA_FORWARDING)
    ∷ filter_part (setting payload NETCONFA_RP_FILTER)
    ∷ switch_part (codes "mc_forwarding") (setting payload NETCONFA_MC_FORWARDING) ∷ []

-- neighbours, routes over links that are down, and packets of MPLS
unfoldable pub neighbour_parts : List ℕ → List (List ℕ)
neighbour_parts payload =
    switch_part (codes "proxy_neigh") (setting payload NETCONFA_PROXY_NEIGH)
    ∷ switch_part (codes "ignore_routes_with_linkdown") (setting payload NETCONFA_IGNORE_ROUTES_WITH_LINKDOWN)
    ∷ switch_part (codes "input") (setting payload NETCONFA_INPUT) ∷ []

-- the line of a message
unfoldable pub configuration_line : List Known → ℕ → List ℕ → List ℕ
configuration_line known t payload =
    with_parts (with_parts (with_parts [] (configuration_front known t payload)) (forwarding_parts payload))
    (neighbour_parts payload)
    ++ codes "\n"
