use Rattle.std.proofs.Common.{ℕ, ◌+◌, ◌++◌, drop, ap, ◌∙◌, arith}
use Rattle.std.specs.Prelude.{replicate}
use Rattle.netlink_bytes.specs.Numbers.{bytes_le}
use Rattle.netlink_attributes.proofs.WriteLemmas.{pieces}
use Rattle.netlink_attributes.proofs.nla.emit_nla.Goals as goal

pub returns-clause-written : goal.returns-clause-written
returns-clause-written g c =
    let size = c.value_len-value_len.ensures.size in
    pieces (g.T.Nla.kind_of c.args.nla.now) (c.value_len-value_len.result + 4) _ (g.T.Nla.value_of c.args.nla.now) c.args.buffer.now _ _ _ _
    _ _
    (omega arith) (omega arith)
    (c.copy_from_slice.ensures.after ∙ c.attribute_header.ensures
    ∙ ap (λ (k : ℕ). bytes_le (c.value_len-value_len.result + 4) 2 ++ bytes_le k 2) c.kind.ensures.kind)
    c.emit_value.ensures.value
    (c.fill.ensures.after (λ y e. e) ∙ ap (λ (k : ℕ). replicate {A = ℕ} k 0) c.split_at_mut-padding.ensures.front_len)
    c.split_at_mut-header.ensures.back
    (c.split_at_mut-value.ensures.back ∙ ap (λ (k : ℕ). drop k c.split_at_mut-header.result.1.now) size)
    c.split_at_mut-padding.ensures.back
