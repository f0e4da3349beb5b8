-- The object of a next hop that has an id, with the keys of `ip -j nexthop` and in its order, and that of a bucket of a
-- group, with the keys of `ip -j nexthop bucket`.
use Rattle.std.specs.Prelude.{ℕ, ◌==◌, ◌||◌, Bool, true, List, [], ◌∷◌, drop, nat_lt, take, Option, Some, None, codes, if◌then◌else◌}
use Rattle.netlink_family.specs.Finding.{first_at}
use Rattle.netlink_json.specs.Fields.{Field, object_of, present}
use Rattle.netlink_json.specs.Json as json
use Rattle.netlink_json.specs.Json.{Json}
use Rattle.netlink_names.specs.declared.device.Known.{Known}
use Rattle.netlink_objects.specs.Forms.{sized, when_json}
use Rattle.netlink_objects.specs.NextHopGroup.{group_json, number_in, resilient_json, type_json}
use Rattle.netlink_objects.specs.RouteValues.{flags_json}
use Rattle.netlink_objects.specs.Rows.{Row, field_of, row_fields}
use Rattle.netlink_objects.specs.declared.form.Form.TheVariants as form
use Rattle.netlink_objects.specs.declared.row.Place.TheVariants.{Attribute, Header}
use Rattle.netlink_packet_core.specs.Fields.{number_at}
use Rattle.netlink_route.specs.declared.next_hop_objects.TheConstants.{NHA_BLACKHOLE, NHA_ENCAP, NHA_ENCAP_TYPE, NHA_FDB, NHA_GATEWAY, NHA_GROUP, NHA_GROUP_TYPE, NHA_ID, NHA_OIF, NHA_RES_BUCKET, NHA_RES_BUCKET_IDLE_TIME, NHA_RES_BUCKET_INDEX, NHA_RES_BUCKET_NH_ID, NHA_RES_GROUP}
use Rattle.netlink_route_lines.specs.Encap.{encap_name}
use Rattle.netlink_words.specs.Parts.{or_empty}

-- `struct nhmsg` has the scope at 1, the protocol at 2 and the flags at 4
abbrev pub hop_flags : List ℕ → ℕ
hop_flags payload = number_at 4 4 (take 8 payload)

-- ---- next hops

-- an encapsulation by its type
abbrev pub encap_json : Option ℕ → Option (List ℕ) → Option Json
encap_json None encap = None
encap_json (Some kind) None = None
encap_json (Some kind) (Some encap) = Some (json.text (encap_name kind))

abbrev pub short_in : Option (List ℕ) → Option ℕ
short_in None = None
short_in (Some value) = sized 2 value

-- the id, the group and what it has, and the encapsulation
unfoldable pub group_fields : List ℕ → List Field
group_fields payload =
    present (codes "id") (json.number (number_in (first_at 8 payload NHA_ID)))
    ∷ field_of (codes "group") (group_json (or_empty (first_at 8 payload NHA_GROUP)))
    ∷ field_of (codes "type") (type_json (short_in (first_at 8 payload NHA_GROUP_TYPE)))
    ∷ field_of (codes "resilient_args") (resilient_json (first_at 8 payload NHA_RES_GROUP))
    ∷ field_of (codes "encap") (encap_json (short_in (first_at 8 payload NHA_ENCAP_TYPE)) (first_at 8 payload NHA_ENCAP)) ∷ []

abbrev pub place_rows : List Row
place_rows =
    (codes "gateway", Attribute NHA_GATEWAY, form.Ip)
    ∷ (codes "dev", Attribute NHA_OIF, form.Device)
    ∷ (codes "scope", Header 1 1, form.Scope 0)
    ∷ (codes "blackhole", Attribute NHA_BLACKHOLE, form.Null)
    ∷ (codes "protocol", Header 2 1, form.Protocol 0 0) ∷ []

abbrev pub fdb_rows : List Row
fdb_rows = (codes "fdb", Attribute NHA_FDB, form.Null) ∷ []

-- the fields of the group, the rows, the flags, and whether it is of a bridge
unfoldable pub hop_parts : List Known → List ℕ → List (List Field)
hop_parts known payload =
    group_fields payload
    ∷ row_fields known (take 8 payload) (drop 8 payload) place_rows
    ∷ (present (codes "flags") (flags_json (hop_flags payload)) ∷ [])
    ∷ row_fields known (take 8 payload) (drop 8 payload) fdb_rows ∷ []

-- ---- buckets

abbrev pub id_rows : List Row
id_rows = (codes "id", Attribute NHA_ID, form.Number) ∷ []

abbrev pub bucket_rows : List Row
bucket_rows =
    (codes "index", Attribute NHA_RES_BUCKET_INDEX, form.Number)
    ∷ (codes "idle_time", Attribute NHA_RES_BUCKET_IDLE_TIME, form.Hundredths)
    ∷ (codes "nhid", Attribute NHA_RES_BUCKET_NH_ID, form.Number) ∷ []

abbrev pub bucket_fields : List ℕ → List Field
bucket_fields block = row_fields [] [] block bucket_rows

abbrev pub bucket_json : Option (List ℕ) → Option Json
bucket_json None = None
bucket_json (Some block) = Some (object_of (bucket_fields block))

-- the id of the group, the bucket, and the flags
unfoldable pub bucket_parts : List ℕ → List (List Field)
bucket_parts payload =
    row_fields [] (take 8 payload) (drop 8 payload) id_rows
    ∷ (field_of (codes "bucket") (bucket_json (first_at 8 payload NHA_RES_BUCKET))
    ∷ present (codes "flags") (flags_json (hop_flags payload)) ∷ []) ∷ []

-- ---- messages

-- by the message type: those of buckets begin at 116
unfoldable pub kind_parts : List Known → ℕ → List ℕ → List (List Field)
kind_parts known t payload = if nat_lt t 116 then hop_parts known payload else bucket_parts payload

-- whether it is gone, and the rest
abbrev pub is_gone : ℕ → Bool
is_gone t = t == 105 || t == 117

unfoldable pub next_hop_parts : List Known → ℕ → List ℕ → List (List Field)
next_hop_parts known t payload =
    (field_of (codes "deleted") (when_json (is_gone t) (json.boolean true)) ∷ [])
    ∷ kind_parts known t payload
