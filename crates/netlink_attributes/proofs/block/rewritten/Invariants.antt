use Rattle.std.proofs.Common.{List, ◌≡◌, ◌++◌, length}
use Rattle.netlink_attributes.specs.Attribute.{Attribute}
use Rattle.netlink_attributes.specs.Block.{canonical_block, filled}
use Rattle.netlink_attributes.specs.Steps.{unread}
use Rattle.netlink_attributes.specs.Progress.{Passes}
use Rattle.netlink_attributes.proofs.block.rewritten.Given as goal

-- some attributes have been passed, and their padding is zeros
abbrev pub invariant-loop-item : goal.invariant-loop-item
invariant-loop-item l =
    (done : List Attribute)
    × Passes l.bytes done (unread l.item-iterator)
    × (l.block.items ≡ canonical_block done ++ filled (unread l.item-iterator))
    × (l.start ≡ length (canonical_block done))
