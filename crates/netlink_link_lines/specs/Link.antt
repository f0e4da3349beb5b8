-- The line of a link, in the order of `ip -o link`, by its message type and its payload.
use Rattle.std.specs.Prelude.{ℕ, ℤ, ◌==◌, List, [], ◌++◌, Option, Some, None, codes, if◌then◌else◌}
use Rattle.std.specs.Fmt.{signed_decimal}
use Rattle.std.specs.Option.{option_map}
use Rattle.netlink_family.specs.Finding.{found_within}
use Rattle.netlink_family.specs.Strings.{until_nul}
use Rattle.netlink_packet_core.specs.Fields.{number_at}
use Rattle.netlink_packet_core.specs.Numbers.{number_le, signed}
use Rattle.netlink_route.specs.declared.links.TheConstants.{IFLA_IFALIAS, IFLA_IFNAME, IFLA_INFO_KIND, IFLA_LINK, IFLA_LINKINFO, IFLA_LINK_NETNSID, IFLA_PROP_LIST}
use Rattle.netlink_names.specs.Device.{device_text}
use Rattle.netlink_names.specs.Known.{link_bytes, link_header, link_index, link_number, link_string}
use Rattle.netlink_link_lines.specs.Flags.{flags_text}
use Rattle.netlink_link_lines.specs.LinkAddress.{hardware_parts}
use Rattle.netlink_link_lines.specs.LinkProperties.{alternatives_text}
use Rattle.netlink_link_lines.specs.LinkSpaces.{space_parts}
use Rattle.netlink_link_lines.specs.LinkParts.{setting_parts}
use Rattle.netlink_words.specs.NumberNames.{link_verb_text}
use Rattle.netlink_words.specs.Parts.{string_part, with_part, with_parts, words_part}
use Rattle.netlink_words.specs.Text.{name_text}
use Rattle.netlink_names.specs.declared.device.Known.{Known}

-- the name, or `if` and the index
abbrev pub link_name : ℤ → Option (List ℕ) → List ℕ
link_name index (Some name) = name_text name
link_name index None = codes "if" ++ signed_decimal index

abbrev pub link_signed : List ℕ → ℕ → Option ℤ
link_signed payload kind = option_map (λ value. signed 4 (number_le value)) (link_bytes payload kind)

-- the name of a lower link; one in another network namespace is not among the known links
abbrev pub below_name : List Known → Option ℤ → ℕ → List ℕ
below_name known None index = device_text known index
below_name known (Some id) index = device_text [] index

-- the lower link, by its namespace and its index; 0 is none
abbrev pub below_words : List Known → Option ℤ → Option ℕ → List ℕ
below_words known id None = []
below_words known id (Some index) =
    if index == 0 then codes "@NONE" else codes "@" ++ below_name known id index

-- the kind of link
abbrev pub link_kind : List ℕ → Option (List ℕ)
link_kind payload = option_map until_nul (found_within (link_bytes payload IFLA_LINKINFO) IFLA_INFO_KIND)

-- the verb, the index, the name and the lower link
abbrev pub link_names : List Known → ℕ → List ℕ → List ℕ
link_names known t payload =
    link_verb_text t
    ++ (signed_decimal (link_index payload)
    ++ (codes ": "
    ++ (link_name (link_index payload) (link_string payload IFLA_IFNAME)
    ++ below_words known (link_signed payload IFLA_LINK_NETNSID) (link_number payload IFLA_LINK))))

unfoldable pub link_front : List Known → ℕ → List ℕ → List ℕ
link_front known t payload =
    link_verb_text t
    ++ (signed_decimal (link_index payload)
    ++ (codes ": "
    ++ (link_name (link_index payload) (link_string payload IFLA_IFNAME)
    ++ (below_words known (link_signed payload IFLA_LINK_NETNSID) (link_number payload IFLA_LINK)
    ++ (codes ": <" ++ (flags_text (number_at 8 4 (link_header payload)) ++ codes ">"))))))

-- the verb, index, name, lower link and flags; settings; device and addresses; namespaces; alias;
-- alternative names; kind
unfoldable pub link_line : List Known → ℕ → List ℕ → List ℕ
link_line known t payload =
    with_part
    (alternatives_text
    (with_part
    (with_parts
    (with_parts (with_parts (link_front known t payload) (setting_parts known payload)) (hardware_parts payload))
    (space_parts payload))
    (words_part (codes "alias") (link_string payload IFLA_IFALIAS)))
    (link_bytes payload IFLA_PROP_LIST))
    (string_part (codes "kind") (link_kind payload))
    ++ codes "\n"
