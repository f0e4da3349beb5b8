-- What a filter and a chain of filters have.
use Rattle.std.specs.Prelude.{ℕ, ◌==◌, ◌/◌, ◌%◌, ◌+◌, ◌*◌, List, [], ◌∷◌, Some, codes, if◌then◌else◌}
use Rattle.std.specs.Option.{option_map}
use Rattle.netlink_family.specs.Finding.{first_at}
use Rattle.netlink_packet_core.specs.Numbers.{number_le}
use Rattle.netlink_route.specs.declared.traffic_control.TheConstants.{TCA_CHAIN}
use Rattle.netlink_names.specs.Device.{device_part}
use Rattle.netlink_names.specs.declared.device.Known.{Known}
use Rattle.netlink_traffic_lines.specs.Ids.{index_of, info_of, kind_of, parent_of, parent_part}
use Rattle.netlink_traffic_lines.specs.PacketProtocols.{protocol_text}
use Rattle.netlink_traffic_lines.specs.Values.{counted}
use Rattle.netlink_words.specs.Parts.{keyed, number_part, with_parts}
use Rattle.netlink_words.specs.Text.{name_text}

-- what filters are attached to; two ids are those of the discipline `clsact`
unfoldable pub hook_part : ℕ → List ℕ
hook_part parent =
    if parent == 0xfffffff2 then codes "ingress"
    else if parent == 0xfffffff3 then codes "egress"
    else parent_part parent

-- a block that links share (TCM_IFINDEX_MAGIC_BLOCK), or the link and what filters are attached to there
unfoldable pub place_parts : List Known → ℕ → ℕ → List (List ℕ)
place_parts known index parent =
    if index == 0xffffffff then number_part (codes "block") (Some parent) ∷ []
    else device_part known (codes "dev") (Some index) ∷ hook_part parent ∷ []

-- the protocol of packets, big-endian in the lower 16 bits, unless it is 0
abbrev pub swapped : ℕ → ℕ
swapped n = n % 256 * 256 + n / 256

unfoldable pub protocol_part : ℕ → List ℕ
protocol_part protocol = if protocol == 0 then [] else keyed (codes "protocol") (protocol_text protocol)

-- the protocol, the preference, the kind and the chain
unfoldable pub filter_parts : List ℕ → List (List ℕ)
filter_parts payload =
    protocol_part (swapped (info_of payload % 65536))
    ∷ counted (codes "pref") (info_of payload / 65536)
    ∷ name_text (kind_of payload)
    ∷ number_part (codes "chain") (option_map number_le (first_at 20 payload TCA_CHAIN)) ∷ []

-- the kind and the number of a chain
unfoldable pub chain_parts : List ℕ → List (List ℕ)
chain_parts payload =
    name_text (kind_of payload)
    ∷ number_part (codes "chain") (option_map number_le (first_at 20 payload TCA_CHAIN)) ∷ []

-- a text, followed by what a filter has, and by what a chain has
unfoldable pub filter_text : List Known → List ℕ → List ℕ → List ℕ
filter_text known payload text =
    with_parts (with_parts text (place_parts known (index_of payload) (parent_of payload))) (filter_parts payload)

unfoldable pub chain_text : List Known → List ℕ → List ℕ → List ℕ
chain_text known payload text =
    with_parts (with_parts text (place_parts known (index_of payload) (parent_of payload))) (chain_parts payload)
