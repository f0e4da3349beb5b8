-- The line of the VLANs of a bridge's port, in the order of `bridge monitor vlan`, by its message type and payload.
use Rattle.std.specs.Prelude.{ℕ, ◌==◌, not, List, [], ◌∷◌, ◌++◌, length, nat_lt, slice_index, take, Option, Some, None, codes, decimal, if◌then◌else◌}
use Rattle.std.specs.Int.Bits.{bit_and}
use Rattle.std.specs.Option.{option_map}
use Rattle.netlink_bridge_lines.specs.Words.{front, range_text}
use Rattle.netlink_family.specs.Finding.{first_at, found_in}
use Rattle.netlink_names.specs.declared.device.Known.{Known}
use Rattle.netlink_packet_core.specs.Fields.{number_at}
use Rattle.netlink_packet_core.specs.Numbers.{number_le}
use Rattle.netlink_route.specs.declared.bridge_vlans.TheConstants.{BRIDGE_VLANDB_ENTRY, BRIDGE_VLANDB_ENTRY_INFO, BRIDGE_VLANDB_ENTRY_MCAST_ROUTER, BRIDGE_VLANDB_ENTRY_RANGE, BRIDGE_VLANDB_ENTRY_STATE, BRIDGE_VLANDB_GLOBAL_OPTIONS, BRIDGE_VLANDB_GOPTS_ID, BRIDGE_VLANDB_GOPTS_MCAST_IGMP_VERSION, BRIDGE_VLANDB_GOPTS_MCAST_LAST_MEMBER_CNT, BRIDGE_VLANDB_GOPTS_MCAST_LAST_MEMBER_INTVL, BRIDGE_VLANDB_GOPTS_MCAST_MEMBERSHIP_INTVL, BRIDGE_VLANDB_GOPTS_MCAST_MLD_VERSION, BRIDGE_VLANDB_GOPTS_MCAST_QUERIER, BRIDGE_VLANDB_GOPTS_MCAST_QUERIER_INTVL, BRIDGE_VLANDB_GOPTS_MCAST_QUERY_INTVL, BRIDGE_VLANDB_GOPTS_MCAST_QUERY_RESPONSE_INTVL, BRIDGE_VLANDB_GOPTS_MCAST_SNOOPING, BRIDGE_VLANDB_GOPTS_MCAST_STARTUP_QUERY_CNT, BRIDGE_VLANDB_GOPTS_MCAST_STARTUP_QUERY_INTVL, BRIDGE_VLANDB_GOPTS_RANGE}
use Rattle.netlink_words.specs.Parts.{keyed, number_part, or_empty, or_zero, when, with_parts}

-- the number of a kind
abbrev pub number_in : List ℕ → ℕ → Option ℕ
number_in block kind = option_map number_le (found_in block kind)

-- that of a kind of 1 byte
abbrev pub byte_in : List ℕ → ℕ → Option ℕ
byte_in block kind = option_map (λ value. slice_index value 0) (found_in block kind)

abbrev pub last_of : ℕ → Option ℕ → ℕ
last_of first None = first
last_of first (Some last) = last

-- ---- one VLAN, or several with the same settings

-- `struct bridge_vlan_info` of linux/if_bridge.h
abbrev pub info_of : List ℕ → List ℕ
info_of block = or_empty (found_in block BRIDGE_VLANDB_ENTRY_INFO)

abbrev pub vlan_flags : List ℕ → ℕ
vlan_flags info = if nat_lt (length info) 4 then 0 else number_at 0 2 info

unfoldable pub range_part : List ℕ → Option ℕ → List ℕ
range_part info last =
    if nat_lt (length info) 4 then []
    else range_text (number_at 2 2 info) (last_of (number_at 2 2 info) last)

-- BR_STATE_*
abbrev pub state_text : ℕ → List ℕ
state_text n =
    if n == 0 then codes "disabled"
    else if n == 1 then codes "listening"
    else if n == 2 then codes "learning"
    else if n == 3 then codes "forwarding"
    else if n == 4 then codes "blocking"
    else codes "(" ++ (decimal n ++ codes ")")

-- the VLANs, the flags, the state, and the type of a router behind the port
unfoldable pub vlan_parts : List ℕ → List (List ℕ)
vlan_parts block =
    range_part (info_of block) (number_in block BRIDGE_VLANDB_ENTRY_RANGE)
    ∷ when (not (bit_and (vlan_flags (info_of block)) 2 == 0)) (codes "PVID")
    ∷ when (not (bit_and (vlan_flags (info_of block)) 4 == 0)) (codes "Egress Untagged")
    ∷ keyed (codes "state") (state_text (or_zero (byte_in block BRIDGE_VLANDB_ENTRY_STATE)))
    ∷ number_part (codes "mcast_router") (byte_in block BRIDGE_VLANDB_ENTRY_MCAST_ROUTER) ∷ []

unfoldable pub vlans_in : Option (List ℕ) → List (List ℕ)
vlans_in None = []
vlans_in (Some block) = vlan_parts block

-- in a request for a list (RTM_GETVLAN, 114) the kind has another meaning
unfoldable pub entry_parts : ℕ → List ℕ → List (List ℕ)
entry_parts t payload = if t == 114 then [] else vlans_in (first_at 8 payload BRIDGE_VLANDB_ENTRY)

-- ---- the settings of VLANs of a bridge

unfoldable pub id_part : Option ℕ → Option ℕ → List ℕ
id_part None last = []
id_part (Some first) last = range_text first (last_of first last)

-- the VLANs, and how the bridge listens to memberships in multicast groups
unfoldable pub snooping_parts : List ℕ → List (List ℕ)
snooping_parts block =
    id_part (number_in block BRIDGE_VLANDB_GOPTS_ID) (number_in block BRIDGE_VLANDB_GOPTS_RANGE)
    ∷ number_part (codes "mcast_snooping") (byte_in block BRIDGE_VLANDB_GOPTS_MCAST_SNOOPING)
    ∷ number_part (codes "mcast_querier") (byte_in block BRIDGE_VLANDB_GOPTS_MCAST_QUERIER) ∷ []

-- the versions of the protocols
unfoldable pub version_parts : List ℕ → List (List ℕ)
version_parts block =
    number_part (codes "mcast_igmp_version") (byte_in block BRIDGE_VLANDB_GOPTS_MCAST_IGMP_VERSION)
    ∷ number_part (codes "mcast_mld_version") (byte_in block BRIDGE_VLANDB_GOPTS_MCAST_MLD_VERSION) ∷ []

-- the numbers and times of queries for the last member, and of those at the start
unfoldable pub query_parts : List ℕ → List (List ℕ)
query_parts block =
    number_part (codes "mcast_last_member_count") (number_in block BRIDGE_VLANDB_GOPTS_MCAST_LAST_MEMBER_CNT)
    ∷ number_part (codes "mcast_last_member_interval") (number_in block BRIDGE_VLANDB_GOPTS_MCAST_LAST_MEMBER_INTVL)
    ∷ number_part (codes "mcast_startup_query_count") (number_in block BRIDGE_VLANDB_GOPTS_MCAST_STARTUP_QUERY_CNT)
    ∷ number_part (codes "mcast_startup_query_interval") (number_in block BRIDGE_VLANDB_GOPTS_MCAST_STARTUP_QUERY_INTVL) ∷ []

-- the other times
unfoldable pub interval_parts : List ℕ → List (List ℕ)
interval_parts block =
    number_part (codes "mcast_membership_interval") (number_in block BRIDGE_VLANDB_GOPTS_MCAST_MEMBERSHIP_INTVL)
    ∷ number_part (codes "mcast_querier_interval") (number_in block BRIDGE_VLANDB_GOPTS_MCAST_QUERIER_INTVL)
    ∷ number_part (codes "mcast_query_interval") (number_in block BRIDGE_VLANDB_GOPTS_MCAST_QUERY_INTVL)
    ∷ number_part (codes "mcast_query_response_interval") (number_in block BRIDGE_VLANDB_GOPTS_MCAST_QUERY_RESPONSE_INTVL) ∷ []

-- a text, followed by these
unfoldable pub options_text : List ℕ → List ℕ → List ℕ
options_text block text =
    with_parts
    (with_parts (with_parts (with_parts text (snooping_parts block)) (version_parts block)) (query_parts block))
    (interval_parts block)

unfoldable pub options_in : Option (List ℕ) → List ℕ → List ℕ
options_in None text = text
options_in (Some block) text = options_text block text

unfoldable pub global_text : ℕ → List ℕ → List ℕ → List ℕ
global_text t payload text =
    if t == 114 then text else options_in (first_at 8 payload BRIDGE_VLANDB_GLOBAL_OPTIONS) text

-- the line of a message: the first entry counts
unfoldable pub vlan_line : List Known → ℕ → List ℕ → List ℕ
vlan_line known t payload =
    global_text t payload
    (with_parts (with_parts [] (front known t (number_at 4 4 (take 8 payload)))) (entry_parts t payload))
    ++ codes "\n"
