use Rattle.std.proofs.Common.{arith}
use Rattle.netlink_attributes.specs.Sizes.{length-written}
use Rattle.netlink_attributes.proofs.WriteLemmas.{length-cons}
use Rattle.netlink_attributes.proofs.nlas.NlasEmitable.buffer_len.Goals as goal

pub nla_buffer_len-size-requires : goal.nla_buffer_len-size-requires
nla_buffer_len-size-requires g c =
    let nla = c.nla-item.result in
    let whole = length-cons g.T.Nla.kind_of g.T.Nla.value_of _ _ nla c.loop-nla-test.true c.nla-item.is in
    let size = length-written (g.T.Nla.kind_of nla) (g.T.Nla.value_of nla) in
    record { room = omega (arith, whole, size, c.loop-nla.invariant, c.requires.in_size) }
