-- The object of a route, with the keys of `ip -j route` and in its order, and that of a route of multicast
-- routing, with the keys of `ip -j mroute`.
use Rattle.std.specs.Prelude.{ℕ, ◌==◌, not, true, List, [], ◌∷◌, drop, slice_index, take, Option, Some, None, codes, if◌then◌else◌}
use Rattle.std.specs.Int.Bits.{bit_and}
use Rattle.std.specs.Option.{option_map}
use Rattle.netlink_family.specs.Finding.{first_at}
use Rattle.netlink_json.specs.Fields.{Field, present}
use Rattle.netlink_json.specs.Json as json
use Rattle.netlink_json.specs.Json.{Json}
use Rattle.netlink_names.specs.declared.device.Known.{Known}
use Rattle.netlink_objects.specs.Forms.{device_json, when_json, word_json}
use Rattle.netlink_objects.specs.RouteHops.{hops_json, multipath_json}
use Rattle.netlink_objects.specs.RouteMetrics.{metrics_json}
use Rattle.netlink_objects.specs.RouteValues.{cache_json, flags_json, flow_json, installer_word, label_word, lifetime_fields, link_json, preference_json, propagation_json, scope_word, table_word, via_json}
use Rattle.netlink_objects.specs.Rows.{field_of, row_field}
use Rattle.netlink_objects.specs.declared.form.Form.{Form}
use Rattle.netlink_objects.specs.declared.form.Form.TheVariants as form
use Rattle.netlink_objects.specs.declared.row.Place.{Place}
use Rattle.netlink_objects.specs.declared.row.Place.TheVariants.{Attribute, Header}
use Rattle.netlink_route.specs.declared.routes.TheConstants.{RTA_CACHEINFO, RTA_DST, RTA_FLOW, RTA_GATEWAY, RTA_IIF, RTA_MARK, RTA_METRICS, RTA_MULTIPATH, RTA_NEWDST, RTA_NH_ID, RTA_OIF, RTA_PREF, RTA_PREFSRC, RTA_PRIORITY, RTA_SRC, RTA_TTL_PROPAGATE, RTA_UID, RTA_VIA}
use Rattle.netlink_route_lines.specs.Multicast.{is_multicast, word_or_unknown}
use Rattle.netlink_route_lines.specs.Route.{is_own, route_byte, route_bytes, route_flags, route_number, route_table, source_text, target_text, type_part}
use Rattle.netlink_words.specs.Text.{ip_words}

-- a member that is one value of the message
abbrev pub one_field : List Known → List ℕ → List ℕ → Place → Form → Field
one_field known payload key place form = row_field known (take 12 payload) (drop 12 payload) (key, place, form)

-- an attribute of one byte
abbrev pub route_small : List ℕ → ℕ → Option ℕ
route_small payload kind = option_map (λ value. slice_index value 0) (first_at 12 payload kind)

-- the type, the destination, the source, the id of the next hop, the new labels and the type of service
unfoldable pub front_fields : List Known → List ℕ → List Field
front_fields known payload =
    field_of (codes "type") (word_json (type_part (route_byte payload 7)))
    ∷ present (codes "dst") (json.text (target_text payload))
    ∷ field_of (codes "from") (word_json (source_text payload))
    ∷ one_field known payload (codes "nhid") (Attribute RTA_NH_ID) form.Number
    ∷ field_of (codes "to") (word_json (label_word (route_byte payload 0) (route_bytes payload RTA_NEWDST)))
    ∷ one_field known payload (codes "tos") (Header 3 1) form.Tos ∷ []

-- the gateway, the link, the table, who installed it, and the scope
unfoldable pub next_fields : List Known → List ℕ → List Field
next_fields known payload =
    one_field known payload (codes "gateway") (Attribute RTA_GATEWAY) form.Ip
    ∷ field_of (codes "via") (via_json (route_bytes payload RTA_VIA))
    ∷ field_of (codes "dev") (link_json known (route_number payload RTA_OIF))
    ∷ field_of (codes "table") (word_json (table_word (route_table payload)))
    ∷ field_of (codes "protocol") (word_json (installer_word (is_own payload) (route_byte payload 5)))
    ∷ field_of (codes "scope") (word_json (scope_word (is_own payload) (route_byte payload 6))) ∷ []

-- the preferred source, the metric, the flags, the mark, the realms, the user, and what the kernel keeps
unfoldable pub origin_fields : List Known → List ℕ → List Field
origin_fields known payload =
    one_field known payload (codes "prefsrc") (Attribute RTA_PREFSRC) form.Ip
    ∷ one_field known payload (codes "metric") (Attribute RTA_PRIORITY) form.Number
    ∷ present (codes "flags") (flags_json (route_flags payload))
    ∷ one_field known payload (codes "mark") (Attribute RTA_MARK) form.NonZero
    ∷ field_of (codes "flow") (flow_json (route_number payload RTA_FLOW))
    ∷ one_field known payload (codes "uid") (Attribute RTA_UID) form.Number
    ∷ field_of (codes "cache") (cache_json (route_byte payload 0) (route_flags payload)) ∷ []

-- the metrics, the incoming link, the preference, whether the time to live goes on, and the next hops
unfoldable pub last_fields : List Known → List ℕ → List Field
last_fields known payload =
    field_of (codes "metrics") (metrics_json (first_at 12 payload RTA_METRICS))
    ∷ field_of (codes "iif") (link_json known (route_number payload RTA_IIF))
    ∷ field_of (codes "pref") (preference_json (route_small payload RTA_PREF))
    ∷ field_of (codes "ttl-propogate") (propagation_json (route_small payload RTA_TTL_PROPAGATE))
    ∷ field_of (codes "nexthops") (hops_json known (route_byte payload 0) (first_at 12 payload RTA_MULTIPATH)) ∷ []

-- a route of multicast routing
abbrev pub incoming_json : List Known → Option ℕ → Option Json
incoming_json known None = Some (json.text (codes "unresolved"))
incoming_json known (Some index) =
    if index == 0 then Some (json.text (codes "unresolved")) else device_json known (Some index)

abbrev pub state_word : ℕ → List ℕ
state_word flags = if bit_and flags 0x20 == 0 then codes "resolved" else codes "unresolved"

unfoldable pub multicast_fields : List Known → List ℕ → List Field
multicast_fields known payload =
    present (codes "src") (json.text (word_or_unknown (ip_words (route_bytes payload RTA_SRC))))
    ∷ present (codes "dst") (json.text (word_or_unknown (ip_words (route_bytes payload RTA_DST))))
    ∷ field_of (codes "iif") (incoming_json known (route_number payload RTA_IIF))
    ∷ field_of (codes "multipath") (multipath_json known (first_at 12 payload RTA_MULTIPATH))
    ∷ present (codes "state") (json.text (state_word (route_flags payload)))
    ∷ field_of (codes "offload") (when_json (not (bit_and (route_flags payload) 0x8 == 0)) json.null)
    ∷ field_of (codes "table") (word_json (table_word (route_table payload))) ∷ []

-- by the family of the route
unfoldable pub kind_parts : List Known → List ℕ → List (List Field)
kind_parts known payload =
    if is_multicast (route_byte payload 0) then multicast_fields known payload ∷ []
    else front_fields known payload
    ∷ next_fields known payload
    ∷ origin_fields known payload
    ∷ lifetime_fields (first_at 12 payload RTA_CACHEINFO)
    ∷ last_fields known payload ∷ []

-- whether it is gone, whether it is a request, and the rest
unfoldable pub route_parts : List Known → ℕ → List ℕ → List (List Field)
route_parts known t payload =
    (field_of (codes "deleted") (when_json (t == 25) (json.boolean true)) ∷ [])
    ∷ kind_parts known payload
