-- The metrics of a route.
use Rattle.std.specs.Prelude.{ℕ, ◌==◌, ◌&&◌, ◌/◌, ◌%◌, Bool, false, List, [], ◌∷◌, ◌++◌, map, nat_lt, Option, Some, None, codes, if◌then◌else◌}
use Rattle.std.specs.Fmt.{digits}
use Rattle.std.specs.Option.{option_map}
use Rattle.netlink_family.specs.Finding.{found_in}
use Rattle.netlink_family.specs.Strings.{until_nul}
use Rattle.netlink_json.specs.Fields.{Field, items_of, joined, object_of, present}
use Rattle.netlink_json.specs.Json as json
use Rattle.netlink_json.specs.Json.{Json}
use Rattle.netlink_objects.specs.Forms.{when_json, word_json}
use Rattle.netlink_objects.specs.Rows.{field_of}
use Rattle.netlink_packet_core.specs.Numbers.{number_le}
use Rattle.netlink_route.specs.declared.routes.TheConstants.{RTAX_CC_ALGO}
use Rattle.netlink_route_lines.specs.RouteMetrics.{has_lock, metric_kinds, metric_name}

-- `null` for the lowest bit, and all of them in hexadecimal if there are others
abbrev pub feature_fields : ℕ → List Field
feature_fields features =
    field_of (codes "ecn") (when_json (features % 2 == 1) json.null)
    ∷ field_of (codes "features")
    (word_json (if nat_lt features 2 then [] else codes "0x" ++ digits 16 false features)) ∷ []

-- a round-trip time is in eighths of a millisecond, and its variation in quarters
abbrev pub metric_number : ℕ → ℕ → ℕ
metric_number kind value = if kind == 4 then value / 8 else if kind == 5 then value / 4 else value

-- a metric and its value; a hop limit of all ones is none
abbrev pub value_fields : ℕ → ℕ → List Field
value_fields kind value =
    if kind == 12 then feature_fields value
    else if kind == 10 && value == 4294967295 then []
    else present (metric_name kind) (json.number (metric_number kind value)) ∷ []

-- one that is locked has the value 0 if it has no other
abbrev pub number_fields : Bool → ℕ → Option ℕ → List Field
number_fields locked kind None = if locked then value_fields kind 0 else []
number_fields locked kind (Some value) = value_fields kind value

-- a metric of a nest
unfoldable pub metric_fields : List ℕ → ℕ → List Field
metric_fields nest kind =
    if kind == RTAX_CC_ALGO
    then field_of (codes "congestion") (option_map json.text (option_map until_nul (found_in nest RTAX_CC_ALGO))) ∷ []
    else number_fields (has_lock nest kind) kind (option_map number_le (found_in nest kind))

-- an array of one object that has the metrics of a nest
abbrev pub nest_json : List ℕ → Json
nest_json nest = json.array (items_of (object_of (joined (map (metric_fields nest) metric_kinds)) ∷ []))

-- the same for a nest that may be missing
abbrev pub metrics_json : Option (List ℕ) → Option Json
metrics_json None = None
metrics_json (Some nest) = Some (nest_json nest)
