-- The names of links that messages tell, the oldest first.
use Rattle.std.specs.Prelude.{ℕ, ℤ, ◌==◌, not, Bool, false, bytes_eq, List, [], ◌∷◌, ◌++◌, drop, length, nat_lt, slice_index, take, Option, Some, None, if◌then◌else◌}
use Rattle.std.specs.Int.{cast_unsigned, w32}
use Rattle.std.specs.List.{filter}
use Rattle.std.specs.Option.{option_map}
use Rattle.netlink_family.specs.Finding.{first_at}
use Rattle.netlink_family.specs.Strings.{until_nul}
use Rattle.netlink_packet_core.specs.Fields.{number_at}
use Rattle.netlink_packet_core.specs.Numbers.{number_le, signed}
use Rattle.netlink_route.specs.declared.links.TheConstants.{IFLA_IFNAME}
use Rattle.netlink_names.specs.Device.{name_of}
use Rattle.netlink_names.specs.declared.device.Known.{Known}

-- the size in bytes of the longest name, and the number of links whose names are kept
abbrev pub longest_name : ℕ
longest_name = 15

abbrev pub most_links : ℕ
most_links = 65536

-- a link is another one than that with this index
abbrev pub is_other : ℕ → Known → Bool
is_other index link = not (link.index == index)

-- the names of other links
abbrev pub without : ℕ → List Known → List Known
without index known = filter (is_other index) known

-- the names without the oldest one, if all places are taken
unfoldable pub with_room : List Known → List Known
with_room known = if nat_lt (length known) most_links then known else drop 1 known

-- the name of a link, if it has one, is this
abbrev pub has_name : Option (List ℕ) → List ℕ → Bool
has_name None name = false
has_name (Some old) name = bytes_eq old name

-- the names after a link got one; a name that is too long, or that it has, changes nothing
unfoldable pub with_name : ℕ → List ℕ → List Known → List Known
with_name index name known =
    if nat_lt longest_name (length name) then known
    else if has_name (name_of known index) name then known
    else with_room (without index known) ++ (record { index = index; name = name } ∷ [])

abbrev pub with_name_if : ℕ → Option (List ℕ) → List Known → List Known
with_name_if index None known = known
with_name_if index (Some name) known = with_name index name known

-- the header
abbrev pub link_header : List ℕ → List ℕ
link_header payload = take 16 payload

abbrev pub link_index : List ℕ → ℤ
link_index payload = signed 4 (number_at 4 4 (link_header payload))

-- the first attribute of a kind, as bytes, a number and a string
abbrev pub link_bytes : List ℕ → ℕ → Option (List ℕ)
link_bytes payload kind = first_at 16 payload kind

abbrev pub link_number : List ℕ → ℕ → Option ℕ
link_number payload kind = option_map number_le (link_bytes payload kind)

abbrev pub link_string : List ℕ → ℕ → Option (List ℕ)
link_string payload kind = option_map until_nul (link_bytes payload kind)

-- the index of a link as it is in other messages
abbrev pub index_of_link : List ℕ → ℕ
index_of_link payload = cast_unsigned w32 (link_index payload)

-- the address family: AF_BRIDGE (7) is about a port of a bridge
abbrev pub link_family : List ℕ → ℕ
link_family payload = slice_index (link_header payload) 0

-- the names after a message about a link: one that exists (16) or is deleted (17); a port that leaves its bridge stays
unfoldable pub link_known : ℕ → List ℕ → List Known → List Known
link_known t payload known =
    if t == 16 then with_name_if (index_of_link payload) (link_string payload IFLA_IFNAME) known
    else if t == 17 then if link_family payload == 7 then known else without (index_of_link payload) known
    else known
