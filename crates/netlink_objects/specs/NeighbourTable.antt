-- The object of a neighbour table, with the keys of `ip -j ntable` and in its order.
use Rattle.std.specs.Prelude.{ℕ, List, [], ◌∷◌, drop, take, Option, Some, None, codes}
use Rattle.std.specs.Option.{option_map}
use Rattle.netlink_family.specs.Finding.{found_in}
use Rattle.netlink_json.specs.Fields.{Field}
use Rattle.netlink_names.specs.declared.device.Known.{Known}
use Rattle.netlink_objects.specs.RouteValues.{link_json}
use Rattle.netlink_objects.specs.Rows.{Row, field_of, row_fields}
use Rattle.netlink_objects.specs.declared.form.Form.TheVariants as form
use Rattle.netlink_objects.specs.declared.row.Place.TheVariants.{Attribute, Header}
use Rattle.netlink_packet_core.specs.Numbers.{number_le}
use Rattle.netlink_route.specs.declared.neighbour_tables.TheConstants.{NDTA_GC_INTERVAL, NDTA_NAME, NDTA_PARMS, NDTA_THRESH1, NDTA_THRESH2, NDTA_THRESH3, NDTPA_ANYCAST_DELAY, NDTPA_APP_PROBES, NDTPA_BASE_REACHABLE_TIME, NDTPA_DELAY_PROBE_TIME, NDTPA_GC_STALETIME, NDTPA_IFINDEX, NDTPA_LOCKTIME, NDTPA_MCAST_PROBES, NDTPA_PROXY_DELAY, NDTPA_PROXY_QLEN, NDTPA_QUEUE_LEN, NDTPA_REACHABLE_TIME, NDTPA_REFCNT, NDTPA_RETRANS_TIME, NDTPA_UCAST_PROBES}

-- the family, the name and the limits
abbrev pub table_rows : List Row
table_rows =
    (codes "family", Header 0 1, form.Family)
    ∷ (codes "name", Attribute NDTA_NAME, form.Name)
    ∷ (codes "thresh1", Attribute NDTA_THRESH1, form.Number)
    ∷ (codes "thresh2", Attribute NDTA_THRESH2, form.Number)
    ∷ (codes "thresh3", Attribute NDTA_THRESH3, form.Number)
    ∷ (codes "gc_interval", Attribute NDTA_GC_INTERVAL, form.Number) ∷ []

-- the parameters except the link; times are in milliseconds
abbrev pub parm_rows : List Row
parm_rows =
    (codes "refcnt", Attribute NDTPA_REFCNT, form.Number)
    ∷ (codes "reachable", Attribute NDTPA_REACHABLE_TIME, form.Number)
    ∷ (codes "base_reachable", Attribute NDTPA_BASE_REACHABLE_TIME, form.Number)
    ∷ (codes "retrans", Attribute NDTPA_RETRANS_TIME, form.Number)
    ∷ (codes "gc_stale", Attribute NDTPA_GC_STALETIME, form.Number)
    ∷ (codes "delay_probe", Attribute NDTPA_DELAY_PROBE_TIME, form.Number)
    ∷ (codes "queue", Attribute NDTPA_QUEUE_LEN, form.Number)
    ∷ (codes "app_probes", Attribute NDTPA_APP_PROBES, form.Number)
    ∷ (codes "ucast_probes", Attribute NDTPA_UCAST_PROBES, form.Number)
    ∷ (codes "mcast_probes", Attribute NDTPA_MCAST_PROBES, form.Number)
    ∷ (codes "anycast_delay", Attribute NDTPA_ANYCAST_DELAY, form.Number)
    ∷ (codes "proxy_delay", Attribute NDTPA_PROXY_DELAY, form.Number)
    ∷ (codes "proxy_queue", Attribute NDTPA_PROXY_QLEN, form.Number)
    ∷ (codes "locktime", Attribute NDTPA_LOCKTIME, form.Number) ∷ []

-- the parameters of a link, or of all
unfoldable pub parm_fields : List Known → List ℕ → List Field
parm_fields known block =
    field_of (codes "dev") (link_json known (option_map number_le (found_in block NDTPA_IFINDEX)))
    ∷ row_fields known [] block parm_rows

abbrev pub parms_fields : List Known → Option (List ℕ) → List Field
parms_fields known None = []
parms_fields known (Some block) = parm_fields known block

-- the rows and the parameters
unfoldable pub neighbour_table_parts : List Known → ℕ → List ℕ → List (List Field)
neighbour_table_parts known t payload =
    row_fields known (take 4 payload) (drop 4 payload) table_rows
    ∷ parms_fields known (found_in (drop 4 payload) NDTA_PARMS) ∷ []
