use Rattle.std.proofs.Common.{◌∙◌, arith, length-set, refl}
use Rattle.netlink_c.proofs.MessageLemmas.{message_found, message_padded, messages_set, rest_set}
use Rattle.netlink_c.proofs.batch.fill.Goals as goal

pub returns-then-padded-room-clause-filled : goal.returns-then-padded-room-clause-filled
returns-then-padded-room-clause-filled c =
    messages_set c.args.bytes.now c.args.start c.args.items.now 0 _ c.args.start c.after.result c.requires.one refl
    (message_found c.args.bytes.now c.args.start c.args.size c.after.result _ (omega (arith, c.requires.inside))
    c.requires.holds c.requires.said c.message_of.ensures c.after.ensures.rest c.after.ensures.forward)

pub loop-count-init : goal.loop-count-init
loop-count-init c =
    let inside = c.requires.inside in
    let fits = c.if-padded-room.false in
    record {
      room = omega (arith, inside, fits);
      fits = omega (arith, length-set c.args.items.now 0 c.message_of.result, c.requires.one);
      size = length-set c.args.items.now 0 c.message_of.result;
      filled = messages_set c.args.bytes.now c.args.start c.args.items.now 0 _ c.args.start _ c.requires.one refl
          (message_padded c.args.bytes.now c.args.start c.args.size _ _ c.requires.holds c.requires.said c.message_of.ensures
          (omega (arith, c.nla_align-padded.ensures.multiple, c.nla_align-padded.ensures.least)) (omega (arith, inside, fits)));
      rest = rest_set c.args.items.now c.args.items.now 0 _ refl;
    }

pub returns-then-whole-room-clause-filled : goal.returns-then-whole-room-clause-filled
returns-then-whole-room-clause-filled c =
    let end = c.after-then-whole-room in
    messages_set c.args.bytes.now c.args.start c.loop-count.items c.loop-count.count _ c.loop-count.at end.result c.loop-count-test.true
    c.loop-count.invariant.filled
    (message_found c.args.bytes.now c.loop-count.at c.in-Some.size end.result _ (omega (arith, c.loop-count.invariant.room))
    c.in-Some.ensures.whole.0 c.in-Some.ensures.whole.1 c.message_of-in-Some.ensures end.ensures.rest end.ensures.forward)

pub loop-count-preserved : goal.loop-count-preserved
loop-count-preserved c =
    let room = c.loop-count.invariant.room in
    let fits = c.if-whole-room.false in
    let held = c.in-Some.ensures.whole in
    record {
      room = omega (arith, room, fits);
      fits = omega (arith, length-set c.loop-count.items c.loop-count.count c.message_of-in-Some.result, c.loop-count-test.true);
      size = length-set c.loop-count.items c.loop-count.count c.message_of-in-Some.result ∙ c.loop-count.invariant.size;
      filled = messages_set c.args.bytes.now c.args.start c.loop-count.items c.loop-count.count _ c.loop-count.at _ c.loop-count-test.true
          c.loop-count.invariant.filled
          (message_padded c.args.bytes.now c.loop-count.at c.in-Some.size _ _ held.0 held.1 c.message_of-in-Some.ensures
          (omega (arith, c.nla_align-whole.ensures.multiple, c.nla_align-whole.ensures.least)) (omega (arith, room, fits)));
      rest = rest_set c.loop-count.items c.args.items.now c.loop-count.count _ c.loop-count.invariant.rest;
    }
