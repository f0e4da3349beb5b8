use Rattle.std.proofs.Common.{List, ◌≡◌, ◌≤◌, ◌+◌, ◌*◌, length}
use Rattle.netlink_attributes.specs.Attribute.{Attribute}
use Rattle.netlink_attributes.specs.Kinds.{HasNone, kind_by}
use Rattle.netlink_attributes.specs.Progress.{Passes}
use Rattle.netlink_attributes.specs.Steps.{unread}
use Rattle.netlink_attributes.proofs.find.find.Given as goal

-- that many attributes have been passed, none of this kind
abbrev pub invariant-loop-item : goal.invariant-loop-item
invariant-loop-item l = record {
  count : l.index * 4 + length (unread l.item-iterator) ≤ length l.block;
  passed : (done : List Attribute) × Passes l.block done (unread l.item-iterator) × HasNone (kind_by l.whole) done l.kind
      × (length done ≡ l.index);
}
