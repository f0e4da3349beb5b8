-- What a class of a queueing discipline has.
use Rattle.std.specs.Prelude.{ℕ, ◌==◌, List, [], ◌∷◌, Some, codes, if◌then◌else◌}
use Rattle.netlink_names.specs.Device.{device_part}
use Rattle.netlink_names.specs.declared.device.Known.{Known}
use Rattle.netlink_traffic_lines.specs.Ids.{handle_of, handle_text, id_text, index_of, info_of, kind_of, parent_of, parent_part}
use Rattle.netlink_words.specs.Parts.{keyed}
use Rattle.netlink_words.specs.Text.{name_text}

-- the id of a class other than 0, and the queueing discipline of a class that has one
unfoldable pub own_id : ℕ → List ℕ
own_id id = if id == 0 then [] else id_text id

unfoldable pub leaf_part : ℕ → List ℕ
leaf_part leaf = if leaf == 0 then [] else keyed (codes "leaf") (handle_text leaf)

-- the kind, the id, the link, the parent and the leaf
unfoldable pub class_parts : List Known → List ℕ → List (List ℕ)
class_parts known payload =
    name_text (kind_of payload)
    ∷ own_id (handle_of payload)
    ∷ device_part known (codes "dev") (Some (index_of payload))
    ∷ parent_part (parent_of payload)
    ∷ leaf_part (info_of payload) ∷ []
