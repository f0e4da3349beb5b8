use Rattle.std.proofs.Common.{◌∙◌, arith, length-set, refl}
use Rattle.netlink_c.proofs.AttributeLemmas.{attributes_set, item_found, item_padded, rest_set}
use Rattle.netlink_c.proofs.attribute_batch.fill.Goals as goal

pub returns-then-padded-room-clause-filled : goal.returns-then-padded-room-clause-filled
returns-then-padded-room-clause-filled c =
    attributes_set c.args.bytes.now c.args.start c.args.items.now 0 _ c.args.start c.after.result c.requires.one refl
    (item_found c.args.bytes.now c.args.start c.args.size c.after.result _ (λ i. omega (arith, c.type_inv.bytes i)) (omega (arith, c.requires.inside))
    c.requires.holds c.requires.said c.item_of.ensures c.after.ensures.rest c.after.ensures.forward)

pub loop-count-init : goal.loop-count-init
loop-count-init c =
    let inside = c.requires.inside in
    let fits = c.if-padded-room.false in
    record {
      room = omega (arith, inside, fits);
      fits = omega (arith, length-set c.args.items.now 0 c.item_of.result, c.requires.one);
      size = length-set c.args.items.now 0 c.item_of.result;
      filled = attributes_set c.args.bytes.now c.args.start c.args.items.now 0 _ c.args.start _ c.requires.one refl
          (item_padded c.args.bytes.now c.args.start c.args.size _ _ (λ i. omega (arith, c.type_inv.bytes i)) c.requires.holds c.requires.said c.item_of.ensures
          (omega (arith, c.nla_align-padded.ensures.multiple, c.nla_align-padded.ensures.least)) (omega (arith, inside, fits)));
      rest = rest_set c.args.items.now c.args.items.now 0 _ refl;
    }

pub returns-then-whole-room-clause-filled : goal.returns-then-whole-room-clause-filled
returns-then-whole-room-clause-filled c =
    let end = c.after-then-whole-room in
    attributes_set c.args.bytes.now c.args.start c.loop-count.items c.loop-count.count _ c.loop-count.at end.result c.loop-count-test.true
    c.loop-count.invariant.filled
    (item_found c.args.bytes.now c.loop-count.at c.in-Some.size end.result _ (λ i. omega (arith, c.type_inv.bytes i)) (omega (arith, c.loop-count.invariant.room))
    c.in-Some.ensures.whole.0 c.in-Some.ensures.whole.1 c.item_of-in-Some.ensures end.ensures.rest end.ensures.forward)

pub loop-count-preserved : goal.loop-count-preserved
loop-count-preserved c =
    let room = c.loop-count.invariant.room in
    let fits = c.if-whole-room.false in
    let held = c.in-Some.ensures.whole in
    record {
      room = omega (arith, room, fits);
      fits = omega (arith, length-set c.loop-count.items c.loop-count.count c.item_of-in-Some.result, c.loop-count-test.true);
      size = length-set c.loop-count.items c.loop-count.count c.item_of-in-Some.result ∙ c.loop-count.invariant.size;
      filled = attributes_set c.args.bytes.now c.args.start c.loop-count.items c.loop-count.count _ c.loop-count.at _ c.loop-count-test.true
          c.loop-count.invariant.filled
          (item_padded c.args.bytes.now c.loop-count.at c.in-Some.size _ _ (λ i. omega (arith, c.type_inv.bytes i)) held.0 held.1 c.item_of-in-Some.ensures
          (omega (arith, c.nla_align-whole.ensures.multiple, c.nla_align-whole.ensures.least)) (omega (arith, room, fits)));
      rest = rest_set c.loop-count.items c.args.items.now c.loop-count.count _ c.loop-count.invariant.rest;
    }
