use Rattle.std.proofs.Common.{◌≡◌, ◌++◌, List}
use Rattle.netlink_attributes.specs.Attribute.{Attribute}
use Rattle.netlink_attributes.specs.Block.{canonical_block}
use Rattle.netlink_attributes.specs.Progress.{Passes}
use Rattle.netlink_attributes.specs.Steps.{unread}
use Rattle.netlink_shapes.proofs.block.append_attributes.Given as goal

-- some attributes are passed, and they are written
abbrev pub invariant-loop-item : goal.invariant-loop-item
invariant-loop-item l =
    (done : List Attribute) × Passes l.block done (unread l.item-iterator)
    × (l.bytes.items ≡ l.fn.bytes.items ++ canonical_block done)
