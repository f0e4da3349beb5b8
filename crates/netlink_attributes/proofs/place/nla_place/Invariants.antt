use Rattle.std.proofs.Common.{List, Option, ◌≡◌, ◌≤◌, ◌-◌, length}
use Rattle.std.specs.Prelude.{slice_get}
use Rattle.netlink_bytes.specs.declared.error.DecodeError.{DecodeError}
use Rattle.netlink_attributes.specs.Attribute.{Attribute}
use Rattle.netlink_attributes.specs.Places.{ends_of, ends_from}
use Rattle.netlink_attributes.specs.Steps.{unread}
use Rattle.netlink_attributes.specs.Walk.{Walk}
use Rattle.netlink_attributes.proofs.place.nla_place.Given as goal

-- the location that is sought is one of those of what is left
abbrev pub invariant-loop-item : goal.invariant-loop-item
invariant-loop-item l = record {
  shorter : length (unread l.item-iterator) ≤ length l.block;
  same : (all : List Attribute) (fault : Option DecodeError) → Walk l.block all fault
      → (more : List Attribute) × Walk (unread l.item-iterator) more fault
      × (slice_get (ends_of all) l.index ≡ slice_get (ends_from (length l.block - length (unread l.item-iterator)) more) l.left);
}
