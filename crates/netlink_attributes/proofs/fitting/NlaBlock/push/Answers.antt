use Rattle.std.proofs.Common.{arith}
use Rattle.netlink_attributes.proofs.SizeLemmas.{each_push, fit_push, length-push, too_big}
use Rattle.netlink_attributes.proofs.fitting.NlaBlock.push.Goals as goal

pub returns-then-more-self-clause-memory : goal.returns-then-more-self-clause-memory
returns-then-more-self-clause-memory g c fit =
    absurd (too_big g.T.Nla.kind_of g.T.Nla.value_of c.args.self.now.list.items c.args.nla c.args.self.now.size c.nla_buffer_len-more.result
    c.args.self.now.counted c.nla_buffer_len-more.ensures.size (omega (arith, c.if-more-self.true, c.args.self.now.whole)) fit)

pub returns-in_err-push-clause-too_long : goal.returns-in_err-push-clause-too_long
returns-in_err-push-clause-too_long g c never =
    absurd (never (fit_push g.T.Nla.kind_of g.T.Nla.value_of c.args.self.now.list.items c.args.nla c.args.self.now.size
    c.nla_buffer_len-more.result
    c.args.self.now.each c.args.self.now.counted c.nla_buffer_len-more.ensures.size
    (omega (arith, c.if-more-self.false, c.args.self.now.whole))
    (omega (arith, c.kind-width.ensures.kind)) (grind arith)))

pub returns-clause-too_long : goal.returns-clause-too_long
returns-clause-too_long g c never =
    absurd (never (fit_push g.T.Nla.kind_of g.T.Nla.value_of c.args.self.now.list.items c.args.nla c.args.self.now.size
    c.nla_buffer_len-more.result
    c.args.self.now.each c.args.self.now.counted c.nla_buffer_len-more.ensures.size
    (omega (arith, c.if-more-self.false, c.args.self.now.whole))
    (omega (arith, c.kind-width.ensures.kind)) (grind arith)))

pub invariant_of-self-2 : goal.invariant_of-self-2
invariant_of-self-2 g c =
    let items = c.in_ok-push.ensures.items in
    record {
      each =
          rw items (each_push g.T.Nla.kind_of g.T.Nla.value_of c.args.self.now.list.items c.args.nla c.args.self.now.each
          (omega (arith, c.kind-width.ensures.kind)) (grind arith));
      counted =
          rw items (omega (
            arith,
            length-push g.T.Nla.kind_of g.T.Nla.value_of c.args.self.now.list.items c.args.nla,
            c.args.self.now.counted,
            c.nla_buffer_len-more.ensures.size,
          ));
      whole = omega (arith, c.if-more-self.false, c.args.self.now.whole);
    }
