-- The line of the statistics of a link, by its message type and payload.
use Rattle.std.specs.Prelude.{ℕ, ◌==◌, List, [], ◌∷◌, ◌++◌, length, nat_lt, take, Option, Some, None, codes, if◌then◌else◌}
use Rattle.netlink_bridge_lines.specs.Words.{byte_in, value_in, verb}
use Rattle.netlink_family.specs.Finding.{first_at}
use Rattle.netlink_names.specs.Device.{device_part}
use Rattle.netlink_names.specs.declared.device.Known.{Known}
use Rattle.netlink_packet_core.specs.Fields.{number_at}
use Rattle.netlink_route.specs.declared.link_statistics.TheConstants.{IFLA_OFFLOAD_XSTATS_HW_S_INFO, IFLA_OFFLOAD_XSTATS_HW_S_INFO_REQUEST, IFLA_OFFLOAD_XSTATS_HW_S_INFO_USED, IFLA_OFFLOAD_XSTATS_L3_STATS, IFLA_STATS_LINK_64, IFLA_STATS_LINK_OFFLOAD_XSTATS}
use Rattle.netlink_words.specs.Parts.{keyed, number_part, or_empty, with_parts}

-- the verb, and the link
unfoldable pub statistics_front : List Known → ℕ → List ℕ → List (List ℕ)
statistics_front known t payload =
    verb t
    ∷ codes "stats"
    ∷ device_part known (codes "dev") (Some (number_at 4 4 (take 12 payload))) ∷ []

-- a `struct rtnl_link_stats64` (linux/if_link.h); in a request the kind has another meaning
abbrev pub counts_of : ℕ → List ℕ → List ℕ
counts_of t payload = if t == 92 then or_empty (first_at 12 payload IFLA_STATS_LINK_64) else []

-- the packets and bytes that the link received and sent
unfoldable pub count_parts : List ℕ → List (List ℕ)
count_parts counts =
    if nat_lt (length counts) 32 then []
    else number_part (codes "rx_packets") (Some (number_at 0 8 counts))
    ∷ number_part (codes "rx_bytes") (Some (number_at 16 8 counts))
    ∷ number_part (codes "tx_packets") (Some (number_at 8 8 counts))
    ∷ number_part (codes "tx_bytes") (Some (number_at 24 8 counts)) ∷ []

-- the attributes about statistics of routing that hardware collects, in those about hardware
abbrev pub hardware_of : ℕ → List ℕ → List ℕ
hardware_of t payload =
    if t == 92
    then value_in
    (value_in (or_empty (first_at 12 payload IFLA_STATS_LINK_OFFLOAD_XSTATS)) IFLA_OFFLOAD_XSTATS_HW_S_INFO)
    IFLA_OFFLOAD_XSTATS_L3_STATS
    else []

unfoldable pub on_part : List ℕ → Option ℕ → List ℕ
on_part key None = []
on_part key (Some n) = keyed key (if n == 0 then codes "off" else codes "on")

-- whether they are requested, and whether hardware collects them
unfoldable pub hardware_parts : List ℕ → List (List ℕ)
hardware_parts block =
    on_part (codes "l3_stats") (byte_in block IFLA_OFFLOAD_XSTATS_HW_S_INFO_REQUEST)
    ∷ on_part (codes "used") (byte_in block IFLA_OFFLOAD_XSTATS_HW_S_INFO_USED) ∷ []

-- the line of a message
unfoldable pub statistics_line : List Known → ℕ → List ℕ → List ℕ
statistics_line known t payload =
    with_parts (with_parts (with_parts [] (statistics_front known t payload)) (count_parts (counts_of t payload)))
    (hardware_parts (hardware_of t payload))
    ++ codes "\n"
