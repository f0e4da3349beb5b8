use Rattle.std.proofs.Common.{◌≡◌, ◌+◌, ◌-◌, slice_index, sym, ◌∙◌, arith}
use Rattle.netlink_ethernet.specs.Table.{numbers}
use Rattle.netlink_ethernet.proofs.Search.{equal_from_is_eq, greater_from_is_gt, less_from_neither, one_more, protocol_of-found, protocol_of-none_left, within_earlier_rows, within_from, within_later_rows}
use Rattle.netlink_ethernet.proofs.table.look_up.Goals as goal

pub loop-left-preserved-then-is_gt : goal.loop-left-preserved-then-is_gt
loop-left-preserved-then-is_gt c =
    let i = c.loop-left.invariant in
    let half = c.half_of-half.result in
    let middle = c.loop-left.low + half in
    let low = c.loop-left.low + (c.loop-left.left - half) in
    let greater =
    greater_from_is_gt c.args.sought (slice_index numbers middle) _ c.compare-order.ensures.order (sym c.is_gt.ensures ∙ c.if-is_gt.true) in
    let more =
    one_more c.args.comparisons.now c.loop-left.comparisons c.compare-order.new.self c.loop-left.left half
    c.compare-order.ensures.counted i.counted (omega arith) i.left (omega arith) in
    record {
      rows = omega arith;
      within =
          let e : low + half ≡ c.loop-left.low + c.loop-left.left = omega arith in
          rw e (within_from c.args.sought low _ (middle + 1)
          (within_later_rows c.args.sought c.loop-left.low _ middle i.within (omega arith) greater) (omega arith));
      counted = omega arith;
      at_most_seven = more.0;
      left = more.1;
      all_left = λ same. absurd (omega arith);
    }

pub loop-left-preserved : goal.loop-left-preserved
loop-left-preserved c =
    let i = c.loop-left.invariant in
    let half = c.half_of-half.result in
    let middle = c.loop-left.low + half in
    let less =
    less_from_neither c.args.sought (slice_index numbers middle) _ c.compare-order.ensures.order (sym c.is_eq.ensures ∙ c.if-is_eq.false)
    (sym c.is_gt.ensures ∙ c.if-is_gt.false) in
    let more =
    one_more c.args.comparisons.now c.loop-left.comparisons c.compare-order.new.self c.loop-left.left half
    c.compare-order.ensures.counted i.counted (omega arith) i.left (omega arith) in
    record {
      rows = omega arith;
      within = within_earlier_rows c.args.sought c.loop-left.low _ middle i.within (omega arith) less;
      counted = omega arith;
      at_most_seven = more.0;
      left = more.1;
      all_left = λ same. absurd (omega arith);
    }

pub returns-then-is_eq-clause-protocol : goal.returns-then-is_eq-clause-protocol
returns-then-is_eq-clause-protocol c =
    let i = c.loop-left.invariant in
    let middle = c.loop-left.low + c.half_of-half.result in
    let same =
    equal_from_is_eq c.args.sought (slice_index numbers middle) _ c.compare-order.ensures.order (sym c.is_eq.ensures ∙ c.if-is_eq.true) in
    protocol_of-found c.args.sought middle c.protocol_at.result (omega arith) same c.protocol_at.ensures

pub returns-clause-protocol : goal.returns-clause-protocol
returns-clause-protocol c =
    let i = c.loop-left.invariant in
    sym (protocol_of-none_left c.args.sought c.loop-left.low (c.loop-left.low + c.loop-left.left) i.within (omega arith))
