-- The next hops of a route.
use Rattle.std.specs.Prelude.{ℕ, ◌==◌, ◌≡◌, ◌+◌, ◌/◌, ◌%◌, List, [], ◌∷◌, ◌++◌, drop, take, Option, Some, None, codes, decimal, if◌then◌else◌}
use Rattle.std.specs.List.{fold}
use Rattle.std.specs.Option.{option_map}
use Rattle.netlink_family.specs.Finding.{found_in}
use Rattle.netlink_family.specs.Listing.{listed}
use Rattle.netlink_family.specs.Shapes.{Row, rows_in}
use Rattle.netlink_family.specs.Values.{NestHasRows, value_shape}
use Rattle.netlink_family.specs.declared.block_view.BlockView.{BlockView}
use Rattle.netlink_family.specs.declared.shape.Shape.TheVariants.{HeaderNested}
use Rattle.netlink_family.specs.declared.value.Value.{Value}
use Rattle.netlink_packet_core.specs.Attribute.{Attribute}
use Rattle.netlink_packet_core.specs.Numbers.{number_le}
use Rattle.netlink_route.specs.declared.routes.TheConstants.{NEXT_HOPS, RTA_ENCAP, RTA_ENCAP_TYPE, RTA_FLOW, RTA_GATEWAY, RTA_NEWDST, RTA_VIA}
use Rattle.netlink_words.specs.Parts.{or_empty}
use Rattle.netlink_names.specs.Device.{device_part}
use Rattle.netlink_words.specs.NumberNames.{family_text}
use Rattle.netlink_words.specs.Parts.{keyed, realms_part, with_parts}
use Rattle.netlink_route_lines.specs.Encap.{encap_part}
use Rattle.netlink_route_lines.specs.Mpls.{new_labels}
use Rattle.netlink_route_lines.specs.RouteFlags.{hop_flags_text}
use Rattle.netlink_words.specs.Text.{bytes_text, ip_words}
use Rattle.netlink_names.specs.declared.device.Known.{Known}

-- an address of a family: a device address, or an IP address
abbrev pub via_address : ℕ → List ℕ → List ℕ
via_address family address = if family == 17 then bytes_text address else ip_words address

-- a gateway of another family: the number of the family in two bytes, of which the upper one is
-- ignored, and the address
abbrev pub via_part : List ℕ → List ℕ
via_part [] = []
via_part (low ∷ []) = []
via_part (low ∷ high ∷ address) =
    codes "via " ++ (family_text low ++ (codes " " ++ via_address low address))

-- a gateway, and one of another family
abbrev pub next_parts : List ℕ → List ℕ → List (List ℕ)
next_parts gateway via = keyed (codes "via") (ip_words gateway) ∷ via_part via ∷ []

-- the weight of a next hop by its flags and hops; one of MPLS has none
abbrev pub weight_part : ℕ → ℕ → List ℕ
weight_part family word = if family == 28 then [] else codes "weight " ++ decimal (word / 256 + 1)

-- a next hop by the family of the route, its flags and hops, the index of its link in bytes, and its attributes
unfoldable pub hop_parts : List Known → ℕ → ℕ → List ℕ → List ℕ → List (List ℕ)
hop_parts known family word index block =
    codes "nexthop"
    ∷ encap_part known (option_map number_le (found_in block RTA_ENCAP_TYPE)) (found_in block RTA_ENCAP)
    ∷ new_labels family (or_empty (found_in block RTA_NEWDST))
    ∷ keyed (codes "via") (ip_words (or_empty (found_in block RTA_GATEWAY)))
    ∷ via_part (or_empty (found_in block RTA_VIA))
    ∷ realms_part (codes "realm") (codes "realms") (option_map number_le (found_in block RTA_FLOW))
    ∷ device_part known (codes "dev") (Some (number_le index))
    ∷ weight_part family word
    ∷ hop_flags_text (word % 256) ∷ []

-- a text, followed by the next hop that an attribute has the form of
abbrev pub with_hop : List Known → ℕ → List ℕ → Attribute → List ℕ
with_hop known family text hop =
    with_parts text (hop_parts known family hop.kind (take 4 hop.value) (drop 4 hop.value))

-- a text, followed by the next hops in a list
unfoldable pub hops_text : List Known → ℕ → List ℕ → Option (List ℕ) → List ℕ
hops_text known family text None = text
hops_text known family text (Some list) = fold (with_hop known family) text (listed list)

-- a view of a list of next hops, of one of them, and of the attributes of one, by the rows of the
-- table of routes
abbrev pub IsHops : List Row → BlockView → Type 0
IsHops rows view = (rows_in view.rows.list.now ≡ rows) × (view.policy ≡ NEXT_HOPS)

abbrev pub IsHop : List Row → Value → Type 0
IsHop rows value = (value_shape value ≡ HeaderNested 4 0) × NestHasRows rows value

abbrev pub IsOfHop : List Row → BlockView → Type 0
IsOfHop rows view = (rows_in view.rows.list.now ≡ rows) × (view.policy ≡ 0)
