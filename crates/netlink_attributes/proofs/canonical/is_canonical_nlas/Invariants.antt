use Rattle.std.proofs.Common.{◌↔◌}
use Rattle.netlink_attributes.specs.Block.{IsCanonicalBlock}
use Rattle.netlink_attributes.specs.Steps.{unread}
use Rattle.netlink_attributes.proofs.canonical.is_canonical_nlas.Given as goal

-- the bytes are a canonical block if and only if the unread bytes are one
abbrev pub invariant-loop-item : goal.invariant-loop-item
invariant-loop-item l = IsCanonicalBlock l.bytes ↔ IsCanonicalBlock (unread l.item-iterator)
