-- The names of links.
use Rattle.std.specs.Prelude.{ℕ, ◌==◌, List, [], ◌∷◌, ◌++◌, Option, Some, None, codes, decimal, if◌then◌else◌}
use Rattle.netlink_words.specs.Parts.{keyed}
use Rattle.netlink_words.specs.Text.{name_text}
use Rattle.netlink_names.specs.declared.device.Known.{Known}

-- the name of the first known link with an index
unfoldable pub name_of : List Known → ℕ → Option (List ℕ)
name_of [] index = None
name_of (link ∷ known) index =
    if link.index == index then Some link.name else name_of known index

abbrev pub name_or_index : ℕ → Option (List ℕ) → List ℕ
name_or_index index None = codes "if" ++ decimal index
name_or_index index (Some name) = name_text name

-- the name of a link, or `if` and its index; 0 is any link
unfoldable pub device_text : List Known → ℕ → List ℕ
device_text known index =
    if index == 0 then codes "*" else name_or_index index (name_of known index)

-- a key and the name of a link, if there is one
abbrev pub device_part : List Known → List ℕ → Option ℕ → List ℕ
device_part known key None = []
device_part known key (Some index) = keyed key (device_text known index)
