-- The line of a neighbour table, in the order of `ip ntable show`, by its message type and payload.
use Rattle.std.specs.Prelude.{ℕ, ◌==◌, List, [], ◌∷◌, ◌++◌, drop, slice_index, take, Option, Some, None, codes}
use Rattle.std.specs.Option.{option_map}
use Rattle.netlink_family.specs.Finding.{found_in}
use Rattle.netlink_family.specs.Strings.{until_nul}
use Rattle.netlink_packet_core.specs.Numbers.{number_le}
use Rattle.netlink_route.specs.declared.neighbour_tables.TheConstants.{NDTA_GC_INTERVAL, NDTA_NAME, NDTA_PARMS, NDTA_THRESH1, NDTA_THRESH2, NDTA_THRESH3, NDTPA_ANYCAST_DELAY, NDTPA_APP_PROBES, NDTPA_BASE_REACHABLE_TIME, NDTPA_DELAY_PROBE_TIME, NDTPA_GC_STALETIME, NDTPA_IFINDEX, NDTPA_LOCKTIME, NDTPA_MCAST_PROBES, NDTPA_PROXY_DELAY, NDTPA_PROXY_QLEN, NDTPA_QUEUE_LEN, NDTPA_REACHABLE_TIME, NDTPA_REFCNT, NDTPA_RETRANS_TIME, NDTPA_UCAST_PROBES}
use Rattle.netlink_names.specs.Device.{device_part}
use Rattle.netlink_words.specs.NumberNames.{family_text}
use Rattle.netlink_words.specs.Parts.{number_part, when, with_parts}
use Rattle.netlink_words.specs.Text.{name_text}
use Rattle.netlink_names.specs.declared.device.Known.{Known}

unfoldable pub table_name : Option (List ℕ) → List ℕ
table_name None = []
table_name (Some name) = name_text name

-- a key and a number of 8 bytes, which is written as one of 4
abbrev pub long_part : List ℕ → Option ℕ → List ℕ
long_part key number = number_part key number

-- a key and the number in the first attribute of a kind
abbrev pub keyed_number : List ℕ → ℕ → List ℕ → List ℕ
keyed_number block kind key = number_part key (option_map number_le (found_in block kind))

-- the limits, and how often the table is cleaned
unfoldable pub limit_parts : List ℕ → List (List ℕ)
limit_parts payload =
    keyed_number (drop 4 payload) NDTA_THRESH1 (codes "thresh1")
    ∷ keyed_number (drop 4 payload) NDTA_THRESH2 (codes "thresh2")
    ∷ keyed_number (drop 4 payload) NDTA_THRESH3 (codes "thresh3")
    ∷ keyed_number (drop 4 payload) NDTA_GC_INTERVAL (codes "gc_int") ∷ []

-- the references, times and queue
unfoldable pub time_parts : List ℕ → List (List ℕ)
time_parts block =
    keyed_number block NDTPA_REFCNT (codes "refcnt")
    ∷ keyed_number block NDTPA_REACHABLE_TIME (codes "reachable")
    ∷ keyed_number block NDTPA_BASE_REACHABLE_TIME (codes "base_reachable")
    ∷ keyed_number block NDTPA_RETRANS_TIME (codes "retrans")
    ∷ keyed_number block NDTPA_GC_STALETIME (codes "gc_stale")
    ∷ keyed_number block NDTPA_DELAY_PROBE_TIME (codes "delay_probe")
    ∷ keyed_number block NDTPA_QUEUE_LEN (codes "queue") ∷ []

-- the probes
unfoldable pub probe_parts : List ℕ → List (List ℕ)
probe_parts block =
    keyed_number block NDTPA_APP_PROBES (codes "app_probes")
    ∷ keyed_number block NDTPA_UCAST_PROBES (codes "ucast_probes")
    ∷ keyed_number block NDTPA_MCAST_PROBES (codes "mcast_probes") ∷ []

-- the delays and the queue for addresses of others, and how long an entry is kept
unfoldable pub delay_parts : List ℕ → List (List ℕ)
delay_parts block =
    keyed_number block NDTPA_ANYCAST_DELAY (codes "anycast_delay")
    ∷ keyed_number block NDTPA_PROXY_DELAY (codes "proxy_delay")
    ∷ keyed_number block NDTPA_PROXY_QLEN (codes "proxy_queue")
    ∷ keyed_number block NDTPA_LOCKTIME (codes "locktime") ∷ []

-- the parameters of a link, or of all
unfoldable pub parm_parts : List Known → List ℕ → List (List ℕ)
parm_parts known block =
    device_part known (codes "dev") (option_map number_le (found_in block NDTPA_IFINDEX))
    ∷ (time_parts block ++ (probe_parts block ++ delay_parts block))

abbrev pub parms_parts : List Known → Option (List ℕ) → List (List ℕ)
parms_parts known None = []
parms_parts known (Some block) = parm_parts known block

-- the verb of a request, and the family
unfoldable pub table_front : ℕ → List ℕ → List (List ℕ)
table_front t payload =
    when (t == 66) (codes "Get")
    ∷ when (t == 67) (codes "Set")
    ∷ family_text (slice_index (take 4 payload) 0) ∷ []

-- the verb, family, name, limits and parameters
unfoldable pub table_text : List Known → ℕ → List ℕ → List ℕ
table_text known t payload =
    with_parts [] (table_front t payload
    ++ (table_name (option_map until_nul (found_in (drop 4 payload) NDTA_NAME))
    ∷ (limit_parts payload ++ parms_parts known (found_in (drop 4 payload) NDTA_PARMS))))

-- the line of a table
unfoldable pub neighbour_table_line : List Known → ℕ → List ℕ → List ℕ
neighbour_table_line known t payload = table_text known t payload ++ codes "\n"
