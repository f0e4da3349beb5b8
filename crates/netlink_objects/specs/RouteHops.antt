-- The next hops of a route, and the outgoing links of a route of multicast routing.
use Rattle.std.specs.Prelude.{ℕ, ◌==◌, ◌+◌, ◌/◌, ◌%◌, List, [], ◌∷◌, drop, map, nat_lt, take, Option, Some, None, codes, if◌then◌else◌}
use Rattle.std.specs.Option.{option_map}
use Rattle.netlink_family.specs.Finding.{found_in}
use Rattle.netlink_family.specs.Listing.{listed}
use Rattle.netlink_json.specs.Fields.{Field, items_of, object_of, present}
use Rattle.netlink_json.specs.Json as json
use Rattle.netlink_json.specs.Json.{Json}
use Rattle.netlink_names.specs.declared.device.Known.{Known}
use Rattle.netlink_objects.specs.Forms.{word_json}
use Rattle.netlink_objects.specs.RouteValues.{flags_json, flow_json, label_word, link_json, via_json}
use Rattle.netlink_objects.specs.Rows.{field_of, row_field}
use Rattle.netlink_objects.specs.declared.form.Form.TheVariants as form
use Rattle.netlink_objects.specs.declared.row.Place.TheVariants.{Attribute}
use Rattle.netlink_packet_core.specs.Attribute.{Attribute as Entry}
use Rattle.netlink_packet_core.specs.Numbers.{number_le}
use Rattle.netlink_route.specs.declared.routes.TheConstants.{RTA_FLOW, RTA_GATEWAY, RTA_NEWDST, RTA_VIA}
use Rattle.netlink_words.specs.Parts.{or_empty}

-- the weight of a next hop by its flags and hops; one of MPLS has none
abbrev pub weight_json : ℕ → ℕ → Option Json
weight_json family word = if family == 28 then None else Some (json.number (word / 256 + 1))

-- a next hop by the family of the route, its flags and hops, the index of its link in bytes, and its attributes
unfoldable pub hop_fields : List Known → ℕ → ℕ → List ℕ → List ℕ → List Field
hop_fields known family word index block =
    field_of (codes "to") (word_json (label_word family (or_empty (found_in block RTA_NEWDST))))
    ∷ row_field known [] block (codes "gateway", Attribute RTA_GATEWAY, form.Ip)
    ∷ field_of (codes "via") (via_json (or_empty (found_in block RTA_VIA)))
    ∷ field_of (codes "flow") (flow_json (option_map number_le (found_in block RTA_FLOW)))
    ∷ field_of (codes "dev") (link_json known (Some (number_le index)))
    ∷ field_of (codes "weight") (weight_json family word)
    ∷ present (codes "flags") (flags_json (word % 256)) ∷ []

-- the next hop that an attribute has the form of
abbrev pub hop_json : List Known → ℕ → Entry → Json
hop_json known family hop = object_of (hop_fields known family hop.kind (take 4 hop.value) (drop 4 hop.value))

abbrev pub list_json : List Known → ℕ → List ℕ → Json
list_json known family list = json.array (items_of (map (hop_json known family) (listed list)))

abbrev pub hops_json : List Known → ℕ → Option (List ℕ) → Option Json
hops_json known family None = None
hops_json known family (Some list) = Some (list_json known family list)

-- an outgoing link by its flags and hops, which are the least time to live, and its index in bytes
abbrev pub ttl_json : ℕ → Option Json
ttl_json least = if nat_lt least 2 then None else Some (json.number least)

unfoldable pub outgoing_fields : List Known → ℕ → List ℕ → List Field
outgoing_fields known word index =
    field_of (codes "oif") (link_json known (Some (number_le index)))
    ∷ field_of (codes "ttl") (ttl_json (word / 256)) ∷ []

abbrev pub outgoing_json : List Known → Entry → Json
outgoing_json known hop = object_of (outgoing_fields known hop.kind (take 4 hop.value))

abbrev pub links_json : List Known → List ℕ → Json
links_json known list = json.array (items_of (map (outgoing_json known) (listed list)))

abbrev pub multipath_json : List Known → Option (List ℕ) → Option Json
multipath_json known None = None
multipath_json known (Some list) = Some (links_json known list)
