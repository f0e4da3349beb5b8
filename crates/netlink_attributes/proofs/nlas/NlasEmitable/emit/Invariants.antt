use Rattle.std.proofs.Common.{List, ℕ, ◌≡◌, ◌<◌, ◌^◌, ◌++◌, length, drop}
use Rattle.std.specs.List.{AllWithin}
use Rattle.netlink_attributes.specs.Block.{canonical_block}
use Rattle.netlink_attributes.specs.Nla.{attributes_of}
use Rattle.netlink_attributes.proofs.nlas.NlasEmitable.emit.Given as goal

-- the front is written, and what is left of the list follows it
abbrev pub invariant-loop-nla : goal.invariant-loop-nla
invariant-loop-nla g l = record {
  kinds : AllWithin (λ nla. g.T.Nla.kind_of nla < 2 ^ 16) l.nla-items 0 l.nla-index;
  written : (front : List ℕ)
      × (l.at ≡ length front)
      × (l.buffer ≡ front ++ drop l.at l.initial.buffer)
      × (front ++ canonical_block (attributes_of g.T.Nla.kind_of g.T.Nla.value_of (drop l.nla-index l.nla-items))
      ≡ canonical_block (attributes_of g.T.Nla.kind_of g.T.Nla.value_of l.nla-items));
}
