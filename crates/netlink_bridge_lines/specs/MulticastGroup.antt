-- The line of an entry of a bridge's multicast database, in the order of `bridge -d monitor mdb`, by its message type and payload.
use Rattle.std.specs.Prelude.{ℕ, ◌==◌, ◌+◌, ◌*◌, not, List, [], ◌∷◌, ◌++◌, drop, length, nat_lt, slice_index, slice_range, take, Option, Some, None, codes, if◌then◌else◌}
use Rattle.std.specs.Int.Bits.{bit_and}
use Rattle.netlink_bridge_lines.specs.Sources.{sources_part}
use Rattle.netlink_bridge_lines.specs.Words.{byte_in, value_in}
use Rattle.netlink_family.specs.Finding.{first_at}
use Rattle.netlink_packet_core.specs.Fields.{number_at}
use Rattle.netlink_names.specs.Device.{device_part}
use Rattle.netlink_names.specs.declared.device.Known.{Known}
use Rattle.netlink_route.specs.declared.multicast_groups.TheConstants.{MDBA_MDB, MDBA_MDB_EATTR_GROUP_MODE, MDBA_MDB_EATTR_RTPROT, MDBA_MDB_EATTR_SOURCE, MDBA_MDB_EATTR_SRC_LIST, MDBA_MDB_ENTRY, MDBA_MDB_ENTRY_INFO, MDBA_ROUTER, MDBA_ROUTER_PORT}
use Rattle.netlink_words.specs.NumberNames.{protocol_text}
use Rattle.netlink_words.specs.Parts.{keyed, number_part, or_empty, when, with_part, with_parts}
use Rattle.netlink_words.specs.Text.{bytes_text, ip_words}

-- ---- `struct br_mdb_entry` of linux/if_bridge.h, 28 bytes

-- the protocol of the group, an ETH_P_* in big-endian byte order, 0 if the group is an Ethernet address
abbrev pub group_protocol : List ℕ → ℕ
group_protocol info = slice_index info 24 * 256 + slice_index info 25

-- the IP address of the group
abbrev pub group_address : List ℕ → List ℕ
group_address info = if group_protocol info == 0x800 then slice_range info 8 12 else slice_range info 8 24

unfoldable pub address_part : List ℕ → List ℕ
address_part info =
    if group_protocol info == 0 then keyed (codes "grp") (bytes_text (slice_range info 8 14))
    else keyed (codes "grp") (ip_words (group_address info))

-- the bridge, the port and the group
unfoldable pub place_parts : List Known → ℕ → List ℕ → List (List ℕ)
place_parts known bridge info =
    device_part known (codes "dev") (Some bridge)
    ∷ device_part known (codes "port") (Some (number_at 0 4 info))
    ∷ address_part info ∷ []

-- MDB_PERMANENT
abbrev pub state_text : ℕ → List ℕ
state_text state = if bit_and state 1 == 0 then codes "temp" else codes "permanent"

unfoldable pub vlan_part : ℕ → List ℕ
vlan_part vid = if vid == 0 then [] else number_part (codes "vid") (Some vid)

-- ---- the attributes after it

-- MCAST_INCLUDE of linux/in.h is 1
unfoldable pub mode_part : Option ℕ → List ℕ
mode_part None = []
mode_part (Some mode) = keyed (codes "filter_mode") (if mode == 1 then codes "include" else codes "exclude")

unfoldable pub protocol_part : Option ℕ → List ℕ
protocol_part None = []
protocol_part (Some protocol) = keyed (codes "proto") (protocol_text protocol)

-- whether packets from sources are wanted, those sources, and who installed the entry
unfoldable pub mode_parts : List ℕ → List (List ℕ)
mode_parts block =
    mode_part (byte_in block MDBA_MDB_EATTR_GROUP_MODE)
    ∷ sources_part (value_in block MDBA_MDB_EATTR_SRC_LIST)
    ∷ protocol_part (byte_in block MDBA_MDB_EATTR_RTPROT) ∷ []

-- the source and the state
unfoldable pub source_parts : ℕ → List ℕ → List (List ℕ)
source_parts state block =
    keyed (codes "src") (ip_words (value_in block MDBA_MDB_EATTR_SOURCE))
    ∷ state_text state ∷ []

-- the flags (MDB_FLAGS_*) and the VLAN
unfoldable pub end_parts : ℕ → ℕ → List (List ℕ)
end_parts flags vid =
    when (not (bit_and flags 1 == 0)) (codes "offload")
    ∷ when (not (bit_and flags 2 == 0)) (codes "fast_leave")
    ∷ when (not (bit_and flags 4 == 0)) (codes "added_by_star_ex")
    ∷ when (not (bit_and flags 8 == 0)) (codes "blocked")
    ∷ vlan_part vid ∷ []

-- a text, followed by an entry: its `struct br_mdb_entry`, and the attributes after it
unfoldable pub entry_text : List Known → ℕ → List ℕ → List ℕ → List ℕ
entry_text known bridge info text =
    with_parts
    (with_parts
    (with_parts (with_parts text (place_parts known bridge info)) (source_parts (slice_index info 4) (drop 28 info)))
    (mode_parts (drop 28 info)))
    (end_parts (slice_index info 5) (number_at 6 2 info))

-- ---- the line

-- the entries; in a request, a `struct br_mdb_entry`
abbrev pub database_of : List ℕ → List ℕ
database_of payload = or_empty (first_at 8 payload MDBA_MDB)

-- the first entry
abbrev pub info_of : List ℕ → List ℕ
info_of payload = value_in (value_in (database_of payload) MDBA_MDB_ENTRY) MDBA_MDB_ENTRY_INFO

-- the first router port: its index in 4 bytes, and attributes; a request has other attributes there
abbrev pub port_of : List ℕ → List ℕ
port_of payload =
    if length (database_of payload) == 28 then []
    else value_in (or_empty (first_at 8 payload MDBA_ROUTER)) MDBA_ROUTER_PORT

abbrev pub bridge_of : List ℕ → ℕ
bridge_of payload = number_at 4 4 (take 8 payload)

-- without an entry: a router port and its bridge, or else the bridge
unfoldable pub rest_parts : List Known → ℕ → ℕ → List ℕ → List (List ℕ)
rest_parts known t bridge port =
    if nat_lt (length port) 4 then when (t == 86) (codes "Get") ∷ device_part known (codes "dev") (Some bridge) ∷ []
    else codes "router port"
    ∷ device_part known (codes "dev") (Some (number_at 0 4 port))
    ∷ device_part known (codes "master") (Some bridge) ∷ []

-- a text, followed by the first entry, or by what is there without one
unfoldable pub entry_or_rest : List Known → ℕ → List ℕ → List ℕ → List ℕ
entry_or_rest known t payload text =
    if nat_lt (length (info_of payload)) 28
    then with_parts text (rest_parts known t (bridge_of payload) (port_of payload))
    else entry_text known (bridge_of payload) (info_of payload) text

-- the line of a message: the first entry counts
unfoldable pub group_line : List Known → ℕ → List ℕ → List ℕ
group_line known t payload =
    entry_or_rest known t payload (with_part [] (when (t == 85) (codes "Deleted"))) ++ codes "\n"
