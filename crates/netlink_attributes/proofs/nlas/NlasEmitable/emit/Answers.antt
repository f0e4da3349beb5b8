use Rattle.std.proofs.Common.{List, ℕ, ◌++◌, ◌<◌, ◌^◌, arith, length-append}
use Rattle.std.proofs.lemmas.List.Elements.{AllWithin-more, at_read}
use Rattle.netlink_attributes.specs.Attribute.{padded}
use Rattle.netlink_attributes.specs.Nla.{attribute_with}
use Rattle.netlink_attributes.proofs.WriteLemmas.{block-cons, put_after, moved_on, list_walks}
use Rattle.netlink_attributes.proofs.nlas.NlasEmitable.emit.Goals as goal

pub loop-nla-preserved : goal.loop-nla-preserved
loop-nla-preserved g c =
    let nla = c.nla-item.result in
    let text : List ℕ = padded (attribute_with (g.T.Nla.kind_of nla) (g.T.Nla.value_of nla)) in
    let front : List ℕ = c.loop-nla.invariant.written.0 in
    let size = c.nla_buffer_len-at.ensures.size in
    record {
      kinds =
          AllWithin-more (λ nla. g.T.Nla.kind_of nla < 2 ^ 16) _ 0 _ c.loop-nla.invariant.kinds
          (at_read _ (λ nla. g.T.Nla.kind_of nla < 2 ^ 16) _ nla c.loop-nla-test.true c.nla-item.is c.emit_nla.ensures.kind);
      written = (
        front ++ text,
        omega (arith, c.loop-nla.invariant.written.1, size, length-append front text),
        put_after c.loop-nla.at c.nla_buffer_len-at.result front c.args.buffer.now c.loop-nla.buffer text c.emit_nla.new.buffer
            c.loop-nla.invariant.written.1 c.loop-nla.invariant.written.2
            size c.emit_nla.ensures.written,
        moved_on front text _ _ _ c.loop-nla.invariant.written.3
            (block-cons g.T.Nla.kind_of g.T.Nla.value_of _ _ nla c.loop-nla-test.true c.nla-item.is),
      );
    }

pub returns-clause-walks : goal.returns-clause-walks
returns-clause-walks g c =
    list_walks g.T.Nla.kind_of g.T.Nla.value_of c.args.self.now.0.now
    (λ k d inside. c.loop-nla.invariant.kinds k d (omega arith) (omega arith)) c.requires.can
