-- The object of a link, with the keys of `ip -j link` and in its order.
use Rattle.std.specs.Prelude.{ℕ, ◌==◌, not, Bool, false, true, List, [], ◌∷◌, ◌++◌, bytes_eq, codes, drop, length, map, take, Option, Some, None, if◌then◌else◌}
use Rattle.std.specs.Fmt.{digits}
use Rattle.std.specs.Int.Bits.{bit_and}
use Rattle.netlink_family.specs.Finding.{first_at, found_in}
use Rattle.netlink_family.specs.Listing.{listed}
use Rattle.netlink_family.specs.Strings.{until_nul}
use Rattle.netlink_json.specs.Fields.{Field, absent, items_of, object_of, present}
use Rattle.netlink_json.specs.Json.{Json, array, boolean, null, number, text}
use Rattle.netlink_link_lines.specs.Flags.{first_flag, flag_name, flag_order}
use Rattle.netlink_link_lines.specs.Link.{link_kind}
use Rattle.netlink_link_lines.specs.LinkAddress.{flags_of, layer_of, link_address, link_own}
use Rattle.netlink_names.specs.declared.device.Known.{Known}
use Rattle.netlink_objects.specs.Forms.{Names, bit_names, device_json, sized, when_json, word_json}
use Rattle.netlink_objects.specs.Rows.{Row, field_of, row_fields}
use Rattle.netlink_objects.specs.declared.form.Form.TheVariants as form
use Rattle.netlink_objects.specs.declared.row.Place.TheVariants.{Attribute, Header}
use Rattle.netlink_packet_core.specs.Attribute as attribute
use Rattle.netlink_route.specs.declared.links.TheConstants.{IFLA_ADDRESS, IFLA_ALT_IFNAME, IFLA_BROADCAST, IFLA_EVENT, IFLA_GROUP, IFLA_IFALIAS, IFLA_IFNAME, IFLA_LINK, IFLA_LINKMODE, IFLA_LINK_NETNSID, IFLA_MASTER, IFLA_MTU, IFLA_NEW_IFINDEX, IFLA_NEW_NETNSID, IFLA_OPERSTATE, IFLA_PERM_ADDRESS, IFLA_PROP_LIST, IFLA_PROTO_DOWN, IFLA_QDISC, IFLA_TXQLEN}

-- `struct ifinfomsg` has the type of the device at 2, the index at 4 and the flags at 8
abbrev pub index_rows : List Row
index_rows = (codes "ifindex", Header 4 4, form.Signed) ∷ []

-- the lower link: none is null, and one in another network namespace is its index
abbrev pub lower_by : List Known → Option (List ℕ) → Option ℕ → Field
lower_by known space None = absent
lower_by known None (Some index) =
    if index == 0 then present (codes "link") null else field_of (codes "link") (device_json known (Some index))
lower_by known (Some id) (Some index) =
    if index == 0 then present (codes "link") null else present (codes "link_index") (number index)

abbrev pub lower_index : Option (List ℕ) → Option ℕ
lower_index None = None
lower_index (Some value) = sized 4 value

abbrev pub name_rows : List Row
name_rows = (codes "ifname", Attribute IFLA_IFNAME, form.Name) ∷ []

-- the names of the flags that are set, and the bits without a name
abbrev pub link_flags : Names
link_flags = map (λ bit. (bit, flag_name bit)) flag_order

abbrev pub word_values : List ℕ → List Json
word_values [] = []
word_values (b ∷ word) = text (b ∷ word) ∷ []

abbrev pub rest_values : ℕ → List Json
rest_values rest = if rest == 0 then [] else text (digits 16 false rest) ∷ []

unfoldable pub flag_values : ℕ → List Json
flag_values flags =
    word_values (first_flag flags) ++ (bit_names flags link_flags ++ rest_values (bit_and flags 0xfff80000))

abbrev pub setting_rows : List Row
setting_rows =
    (codes "mtu", Attribute IFLA_MTU, form.Number)
    ∷ (codes "qdisc", Attribute IFLA_QDISC, form.Name)
    ∷ (codes "master", Attribute IFLA_MASTER, form.Device)
    ∷ (codes "operstate", Attribute IFLA_OPERSTATE, form.State)
    ∷ (codes "linkmode", Attribute IFLA_LINKMODE, form.Mode)
    ∷ (codes "group", Attribute IFLA_GROUP, form.Group)
    ∷ (codes "txqlen", Attribute IFLA_TXQLEN, form.NonZero)
    ∷ (codes "event", Attribute IFLA_EVENT, form.Event)
    ∷ (codes "link_type", Header 2 2, form.LinkType) ∷ []

-- the address of the device, that of broadcasts or of the peer, and the permanent one if it is another
abbrev pub is_peer : ℕ → List ℕ → Bool
is_peer flags broadcast = if bit_and flags 0x10 == 0 then false else not (length broadcast == 0)

abbrev pub permanent_field : ℕ → List ℕ → List ℕ → Field
permanent_field layer own permanent =
    if bytes_eq permanent own then absent
    else field_of (codes "permaddr") (word_json (link_address layer permanent))

abbrev pub hardware_fields : ℕ → ℕ → List ℕ → List ℕ → List ℕ → List Field
hardware_fields layer flags own broadcast permanent =
    field_of (codes "address") (word_json (link_address layer own))
    ∷ field_of (codes "link_pointtopoint") (when_json (is_peer flags broadcast) (boolean true))
    ∷ field_of (codes "broadcast") (word_json (link_address layer broadcast))
    ∷ permanent_field layer own permanent ∷ []

abbrev pub space_rows : List Row
space_rows =
    (codes "link_netnsid", Attribute IFLA_LINK_NETNSID, form.Signed)
    ∷ (codes "new_netnsid", Attribute IFLA_NEW_NETNSID, form.Signed)
    ∷ (codes "new_ifindex", Attribute IFLA_NEW_IFINDEX, form.Signed)
    ∷ (codes "proto_down", Attribute IFLA_PROTO_DOWN, form.TrueIf 0xff)
    ∷ (codes "ifalias", Attribute IFLA_IFALIAS, form.Name) ∷ []

-- the alternative names in a list of properties
abbrev pub alternative_of : ℕ → List ℕ → List Json
alternative_of kind value = if kind == IFLA_ALT_IFNAME then text (until_nul value) ∷ [] else []

abbrev pub alternatives : List attribute.Attribute → List Json
alternatives [] = []
alternatives (property ∷ properties) = alternative_of property.kind property.value ++ alternatives properties

abbrev pub alternatives_field : Option (List ℕ) → Field
alternatives_field None = absent
alternatives_field (Some list) = present (codes "altnames") (array (items_of (alternatives (listed list))))

-- the kind of link
abbrev pub kind_field : Option (List ℕ) → Field
kind_field None = absent
kind_field (Some kind) = present (codes "linkinfo") (object_of (present (codes "info_kind") (text kind) ∷ []))

-- whether it is gone; the index, the lower link, the name, the flags, the settings, the device and its addresses, the
-- network namespaces and the alias, the alternative names, and the kind
unfoldable pub link_parts : List Known → ℕ → List ℕ → List (List Field)
link_parts known t payload =
    (field_of (codes "deleted") (when_json (t == 17) (boolean true)) ∷ [])
    ∷ row_fields known (take 16 payload) (drop 16 payload) index_rows
    ∷ (lower_by known (found_in (drop 16 payload) IFLA_LINK_NETNSID)
    (lower_index (found_in (drop 16 payload) IFLA_LINK)) ∷ [])
    ∷ row_fields known (take 16 payload) (drop 16 payload) name_rows
    ∷ (present (codes "flags") (array (items_of (flag_values (flags_of payload)))) ∷ [])
    ∷ row_fields known (take 16 payload) (drop 16 payload) setting_rows
    ∷ hardware_fields (layer_of payload) (flags_of payload) (link_own payload IFLA_ADDRESS)
    (link_own payload IFLA_BROADCAST) (link_own payload IFLA_PERM_ADDRESS)
    ∷ row_fields known (take 16 payload) (drop 16 payload) space_rows
    ∷ (alternatives_field (first_at 16 payload IFLA_PROP_LIST) ∷ [])
    ∷ (kind_field (link_kind payload) ∷ []) ∷ []
