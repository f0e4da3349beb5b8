use Rattle.std.proofs.Common.{◌≡◌, ◌+◌, length, drop}
use Rattle.netlink_attributes.specs.Block.{canonical_block}
use Rattle.netlink_attributes.specs.Nla.{attributes_of}
use Rattle.netlink_attributes.proofs.nlas.NlasEmitable.buffer_len.Given as goal

-- the size so far plus that of what is left is the whole size
abbrev pub invariant-loop-nla : goal.invariant-loop-nla
invariant-loop-nla g l =
    l.size + length (canonical_block (attributes_of g.T.Nla.kind_of g.T.Nla.value_of (drop l.nla-index l.nla-items)))
    ≡ length (canonical_block (attributes_of g.T.Nla.kind_of g.T.Nla.value_of l.nla-items))
