-- What calls of `next` on a path do.
use Rattle.std.specs.Prelude.{ℕ, ◌≡◌, List, [], Option, Some, None}
use Rattle.std.specs.Iterator.{YieldsThen}
use Rattle.netlink_packet_core.specs.Attribute.{Attribute}
use Rattle.netlink_packet_core.specs.Views.{masked}
use Rattle.netlink_replies.specs.Paths.{IsPath, attribute_at, bytes_inside, offset_inside}
use Rattle.netlink_replies.specs.declared.path.Path.{Path}

-- where a path goes on
abbrev pub block_of : Path → List ℕ
block_of path = path.block.now

abbrev pub offset_of : Path → ℕ
offset_of path = path.offset

-- one call of `next`: the kind of the attribute that contains the offset
abbrev pub path_steps : Path → Option ℕ → Path → Type 0
path_steps before None after =
    (attribute_at (block_of before) (offset_of before) ≡ None) × (block_of after ≡ [])
path_steps before (Some kind) after =
    (found : Attribute × ℕ)
    × (attribute_at (block_of before) (offset_of before) ≡ Some found)
    × (kind ≡ masked found.0.kind) × (block_of after ≡ bytes_inside found)
    × (offset_of after ≡ offset_inside found)

-- calls of `next` until it returns `None` yield the path
abbrev pub GivesPath : Path → Type 0
GivesPath path =
    (kinds : List ℕ) (end : Path) → YieldsThen path_steps path kinds None end
    → IsPath (block_of path) (offset_of path) kinds
