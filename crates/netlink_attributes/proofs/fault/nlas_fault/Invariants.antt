use Rattle.std.proofs.Common.{List}
use Rattle.netlink_attributes.specs.Attribute.{Attribute}
use Rattle.netlink_attributes.specs.Steps.{unread}
use Rattle.netlink_attributes.specs.Progress.{Passes}
use Rattle.netlink_attributes.proofs.fault.nlas_fault.Given as goal

-- some attributes have been passed
abbrev pub invariant-loop-item : goal.invariant-loop-item
invariant-loop-item l = (done : List Attribute) × Passes l.block done (unread l.item-iterator)
