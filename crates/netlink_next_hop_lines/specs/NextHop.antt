-- The line of a next hop, of a group and of a bucket, in the order of `ip nexthop show`, by its message type and payload.
use Rattle.std.specs.Prelude.{ℕ, ◌==◌, ◌||◌, nat_le, Bool, List, [], ◌∷◌, ◌++◌, is_some, slice_index, take, Option, Some, None, codes, if◌then◌else◌}
use Rattle.std.specs.Option.{option_map}
use Rattle.netlink_family.specs.Finding.{first_at}
use Rattle.netlink_packet_core.specs.Fields.{number_at}
use Rattle.netlink_packet_core.specs.Numbers.{number_le}
use Rattle.netlink_route.specs.declared.next_hop_objects.TheConstants.{NHA_BLACKHOLE, NHA_ENCAP, NHA_ENCAP_TYPE, NHA_FDB, NHA_GATEWAY, NHA_ID, NHA_OIF, NHA_RES_GROUP}
use Rattle.netlink_names.specs.Device.{device_part}
use Rattle.netlink_names.specs.declared.device.Known.{Known}
use Rattle.netlink_next_hop_lines.specs.Bucket.{bucket_text}
use Rattle.netlink_next_hop_lines.specs.Group.{group_parts, resilience_in}
use Rattle.netlink_route_lines.specs.Encap.{encap_name}
use Rattle.netlink_route_lines.specs.RouteFlags.{hop_flags_text}
use Rattle.netlink_words.specs.NumberNames.{protocol_text, scope_text}
use Rattle.netlink_words.specs.Parts.{keyed, number_part, or_empty, or_zero, when, with_parts}
use Rattle.netlink_words.specs.Text.{ip_words}

-- the verb of a message
unfoldable pub next_hop_verb : ℕ → List ℕ
next_hop_verb t =
    if t == 105 || t == 117 then codes "Deleted"
    else if t == 106 || t == 118 then codes "Get"
    else []

-- the types of messages about a bucket
abbrev pub of_bucket : ℕ → Bool
of_bucket t = nat_le 116 t

-- the id that is shown: 0 if a next hop or a group has none
abbrev pub shown_id : ℕ → Option ℕ → Option ℕ
shown_id t id = if of_bucket t then id else Some (or_zero id)

-- the verb and the id
unfoldable pub next_hop_front : ℕ → List ℕ → List (List ℕ)
next_hop_front t payload =
    next_hop_verb t
    ∷ number_part (codes "id") (shown_id t (option_map number_le (first_at 8 payload NHA_ID))) ∷ []

-- the name of an encapsulation, if there are both a type and a value
unfoldable pub encap_part : Option ℕ → Option (List ℕ) → List ℕ
encap_part None value = []
encap_part (Some kind) None = []
encap_part (Some kind) (Some value) = keyed (codes "encap") (encap_name kind)

abbrev pub gateway_of : List ℕ → List ℕ
gateway_of payload = or_empty (first_at 8 payload NHA_GATEWAY)

-- a link other than 0, a scope other than `global`, and who installed a next hop if somebody said so
unfoldable pub link_part : List Known → ℕ → List ℕ
link_part known index = if index == 0 then [] else device_part known (codes "dev") (Some index)

unfoldable pub scope_part : ℕ → List ℕ
scope_part scope = if scope == 0 then [] else codes "scope " ++ scope_text scope

unfoldable pub protocol_part : ℕ → List ℕ
protocol_part protocol = if protocol == 0 then [] else keyed (codes "proto") (protocol_text protocol)

-- the encapsulation, the gateway, the link and the scope
unfoldable pub way_parts : List Known → List ℕ → List (List ℕ)
way_parts known payload =
    encap_part (option_map number_le (first_at 8 payload NHA_ENCAP_TYPE)) (first_at 8 payload NHA_ENCAP)
    ∷ keyed (codes "via") (ip_words (gateway_of payload))
    ∷ link_part known (or_zero (option_map number_le (first_at 8 payload NHA_OIF)))
    ∷ scope_part (slice_index (take 8 payload) 1) ∷ []

-- whether packets are dropped, who installed the next hop, its flags, and whether it belongs to a bridge
unfoldable pub end_parts : List ℕ → List (List ℕ)
end_parts payload =
    when (is_some (first_at 8 payload NHA_BLACKHOLE)) (codes "blackhole")
    ∷ protocol_part (slice_index (take 8 payload) 2)
    ∷ hop_flags_text (number_at 4 4 (take 8 payload))
    ∷ when (is_some (first_at 8 payload NHA_FDB)) (codes "fdb") ∷ []

-- a text, followed by what a next hop or a group has
unfoldable pub own_text : List Known → List ℕ → List ℕ → List ℕ
own_text known payload text =
    with_parts
    (with_parts
    (with_parts (with_parts text (group_parts payload)) (resilience_in (first_at 8 payload NHA_RES_GROUP)))
    (way_parts known payload))
    (end_parts payload)

-- the line of a message
unfoldable pub next_hop_line : List Known → ℕ → List ℕ → List ℕ
next_hop_line known t payload =
    (if of_bucket t then bucket_text payload (with_parts [] (next_hop_front t payload))
    else own_text known payload (with_parts [] (next_hop_front t payload)))
    ++ codes "\n"
