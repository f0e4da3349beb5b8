-- The object of an id of a network namespace, with the keys of `ip -j netns list-id` and in its order.
use Rattle.std.specs.Prelude.{ℕ, ◌==◌, true, List, [], ◌∷◌, codes, drop, take}
use Rattle.netlink_json.specs.Fields.{Field}
use Rattle.netlink_json.specs.Json.{boolean}
use Rattle.netlink_objects.specs.Forms.{when_json}
use Rattle.netlink_objects.specs.Rows.{Row, field_of, row_fields}
use Rattle.netlink_objects.specs.declared.form.Form.TheVariants as form
use Rattle.netlink_objects.specs.declared.row.Place.TheVariants.{Attribute}
use Rattle.netlink_route.specs.declared.namespaces.TheConstants.{NETNSA_CURRENT_NSID, NETNSA_FD, NETNSA_NSID, NETNSA_PID, NETNSA_TARGET_NSID}

-- an id below 0 is none, of which `ip` prints no member
abbrev pub namespace_rows : List Row
namespace_rows =
    (codes "nsid", Attribute NETNSA_NSID, form.Signed)
    ∷ (codes "pid", Attribute NETNSA_PID, form.Number)
    ∷ (codes "fd", Attribute NETNSA_FD, form.Number)
    ∷ (codes "target-nsid", Attribute NETNSA_TARGET_NSID, form.Signed)
    ∷ (codes "current-nsid", Attribute NETNSA_CURRENT_NSID, form.Signed) ∷ []

-- whether it is gone, and the rows
unfoldable pub namespace_parts : ℕ → List ℕ → List (List Field)
namespace_parts t payload =
    (field_of (codes "deleted") (when_json (t == 89) (boolean true)) ∷ [])
    ∷ row_fields [] (take 4 payload) (drop 4 payload) namespace_rows ∷ []
