-- The object of the settings of a link, with the keys of `ip -j netconf` and in its order.
use Rattle.std.specs.Prelude.{ℕ, ◌==◌, true, List, [], ◌∷◌, codes, drop, take, Option, Some, None, if◌then◌else◌}
use Rattle.netlink_family.specs.Finding.{found_in}
use Rattle.netlink_json.specs.Fields.{Field}
use Rattle.netlink_json.specs.Json.{Json, boolean, text}
use Rattle.netlink_names.specs.declared.device.Known.{Known}
use Rattle.netlink_objects.specs.Forms.{sized, when_json}
use Rattle.netlink_objects.specs.RouteValues.{link_json}
use Rattle.netlink_objects.specs.Rows.{Row, field_of, row_fields}
use Rattle.netlink_objects.specs.declared.form.Form.TheVariants as form
use Rattle.netlink_objects.specs.declared.row.Place.TheVariants.{Attribute, Header}
use Rattle.netlink_route.specs.declared.network_configurations.TheConstants.{NETCONFA_FORWARDING, NETCONFA_IFINDEX, NETCONFA_IGNORE_ROUTES_WITH_LINKDOWN, NETCONFA_INPUT, NETCONFA_MC_FORWARDING, NETCONFA_PROXY_NEIGH, NETCONFA_RP_FILTER}

-- `struct netconfmsg` has the family at 0
abbrev pub family_rows : List Row
family_rows = (codes "family", Header 0 1, form.Family) ∷ []

-- the index of a link; -1 and -2, without a sign, stand for all links and for those that are yet to be made
abbrev pub index_in : Option (List ℕ) → Option ℕ
index_in None = None
index_in (Some value) = sized 4 value

abbrev pub interface_json : List Known → Option ℕ → Option Json
interface_json known None = None
interface_json known (Some index) =
    if index == 4294967295 then Some (text (codes "all"))
    else if index == 4294967294 then Some (text (codes "default"))
    else link_json known (Some index)

abbrev pub setting_rows : List Row
setting_rows =
    (codes "forwarding", Attribute NETCONFA_FORWARDING, form.Boolean)
    ∷ (codes "rp_filter", Attribute NETCONFA_RP_FILTER, form.Filter)
    ∷ (codes "mc_forwarding", Attribute NETCONFA_MC_FORWARDING, form.Boolean)
    ∷ (codes "proxy_neigh", Attribute NETCONFA_PROXY_NEIGH, form.Boolean)
    ∷ (codes "ignore_routes_with_linkdown", Attribute NETCONFA_IGNORE_ROUTES_WITH_LINKDOWN, form.Boolean)
    ∷ (codes "input", Attribute NETCONFA_INPUT, form.Boolean) ∷ []

-- whether the settings are gone; the family, the link and the settings
unfoldable pub configuration_parts : List Known → ℕ → List ℕ → List (List Field)
configuration_parts known t payload =
    (field_of (codes "deleted") (when_json (t == 81) (boolean true)) ∷ [])
    ∷ row_fields known (take 4 payload) (drop 4 payload) family_rows
    ∷ (field_of (codes "interface") (interface_json known (index_in (found_in (drop 4 payload) NETCONFA_IFINDEX))) ∷ [])
    ∷ row_fields known (take 4 payload) (drop 4 payload) setting_rows ∷ []
