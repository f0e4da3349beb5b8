use Rattle.std.proofs.Common.{◌≡◌, ◌++◌, drop}
use Rattle.netlink_attributes.specs.Block.{canonical_block}
use Rattle.netlink_attributes.specs.Nla.{attributes_of}
use Rattle.netlink_attributes.proofs.nlas.write_nlas.Given as goal

-- what is written and what is left make up the whole block
abbrev pub invariant-loop-nla : goal.invariant-loop-nla
invariant-loop-nla g l =
    l.block.items ++ canonical_block (attributes_of g.T.Nla.kind_of g.T.Nla.value_of (drop l.nla-index l.nlas))
    ≡ canonical_block (attributes_of g.T.Nla.kind_of g.T.Nla.value_of l.nlas)
