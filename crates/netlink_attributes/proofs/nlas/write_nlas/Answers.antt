use Rattle.std.proofs.Common.{List, ℕ, ◌≡◌, ◌++◌, ◌+◌, ◌-◌, length, ap, drop, ◌∙◌, arith, length-append}
use Rattle.std.proofs.lemmas.List.{with_items_is}
use borrow.Rule.Slice.PartMut.{put_mid}
use Rattle.netlink_attributes.specs.Attribute.{padded}
use Rattle.netlink_attributes.specs.Block.{canonical_block}
use Rattle.netlink_attributes.specs.Nla.{attribute_with, attributes_of}
use Rattle.netlink_attributes.proofs.WriteLemmas.{block-cons, moved_on, put_last}
use Rattle.netlink_attributes.proofs.nlas.write_nlas.Goals as goal

pub loop-nla-preserved : goal.loop-nla-preserved
loop-nla-preserved g c =
    let nla = c.nla-item.result in
    let text : List ℕ = padded (attribute_with (g.T.Nla.kind_of nla) (g.T.Nla.value_of nla)) in
    let old : List ℕ = c.loop-nla.block.items in
    let room : List ℕ = c.deref_mut.result.now in
    let start : ℕ = c.len-start.result in
    let put : put_mid start (length room - start) room c.emit_nla.new.buffer ≡ old ++ text =
    put_last old room text c.emit_nla.new.buffer start c.nla_buffer_len.result _ c.len-start.ensures c.loop-nla.block.ok.0
    c.nla_buffer_len.ensures.size
    (c.deref_mut.ensures.value ∙ c.in_ok-resize.ensures.items) c.emit_nla.ensures.written in
    let size : length (put_mid start (length room - start) room c.emit_nla.new.buffer) ≡ c.resize.new.self.len =
    ap length put ∙ length-append old text
    ∙ omega (arith, c.len-start.ensures, c.loop-nla.block.ok.0, c.nla_buffer_len.ensures.size, c.in_ok-resize.ensures.len) in
    ap (λ (x : List ℕ). x
    ++ canonical_block (attributes_of g.T.Nla.kind_of g.T.Nla.value_of (drop (c.loop-nla.nla-index + 1) c.args.nlas.now)))
    (with_items_is c.resize.new.self (put_mid start (length room - start) room c.emit_nla.new.buffer) size ∙ put)
    ∙ moved_on old text _ _ _ c.loop-nla.invariant (block-cons g.T.Nla.kind_of g.T.Nla.value_of _ _ nla c.loop-nla-test.true c.nla-item.is)
