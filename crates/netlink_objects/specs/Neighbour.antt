-- The object of a neighbour, with the keys of `ip -j neigh` and in its order.
use Rattle.std.specs.Prelude.{ℕ, ◌==◌, true, List, [], ◌∷◌, codes, drop, take}
use Rattle.netlink_json.specs.Fields.{Field}
use Rattle.netlink_json.specs.Json.{boolean, null}
use Rattle.netlink_names.specs.declared.device.Known.{Known}
use Rattle.netlink_objects.specs.Forms.{when_json}
use Rattle.netlink_objects.specs.Rows.{Row, field_of, row_fields}
use Rattle.netlink_objects.specs.declared.form.Form.TheVariants as form
use Rattle.netlink_objects.specs.declared.row.Place.TheVariants.{Attribute, Header}
use Rattle.netlink_route.specs.declared.neighbours.TheConstants.{NDA_DST, NDA_FLAGS_EXT, NDA_LLADDR, NDA_PROTOCOL}

-- `struct ndmsg` has the index at 4, the state at 8 and the flags at 10
abbrev pub neighbour_rows : List Row
neighbour_rows =
    (codes "dst", Attribute NDA_DST, form.Ip)
    ∷ (codes "dev", Header 4 4, form.Device)
    ∷ (codes "lladdr", Attribute NDA_LLADDR, form.Hardware)
    ∷ (codes "router", Header 10 1, form.NullIf 0x80)
    ∷ (codes "proxy", Header 10 1, form.NullIf 0x08)
    ∷ (codes "managed", Attribute NDA_FLAGS_EXT, form.NullIf 0x1)
    ∷ (codes "extern_learn", Header 10 1, form.NullIf 0x10)
    ∷ (codes "offload", Header 10 1, form.NullIf 0x20)
    ∷ (codes "state", Header 8 2, form.States)
    ∷ (codes "protocol", Attribute NDA_PROTOCOL, form.Protocol 0 0) ∷ []

-- whether it is gone, or the kernel has no entry for the address; and the rows
unfoldable pub neighbour_parts : List Known → ℕ → List ℕ → List (List Field)
neighbour_parts known t payload =
    (field_of (codes "deleted") (when_json (t == 29) (boolean true))
    ∷ field_of (codes "miss") (when_json (t == 30) null) ∷ [])
    ∷ row_fields known (take 12 payload) (drop 12 payload) neighbour_rows ∷ []
