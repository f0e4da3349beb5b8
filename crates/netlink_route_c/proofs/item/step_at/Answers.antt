use Rattle.std.proofs.Common.{ℕ, List, ap, arith, subst, ◌∙◌, ◌≡◌, drop, Bor}
use Rattle.std.proofs.lemmas.List.{take_rest}
use Rattle.netlink_packet_core.specs.Views.{HoldsAttribute, shown}
use Rattle.netlink_route_c.proofs.Items.{step_inside, step_starts}
use Rattle.netlink_route_c.proofs.item.step_at.Goals as goal

pub returns-clause-some : goal.returns-clause-some
returns-clause-some c =
    let view : shown c.in-Ok.nla ≡ drop c.args.at c.args.block.now =
    ap (λ (b : Bor (List ℕ)). b.now) c.in-Ok.ensures.keeps ∙ take_rest c.args.block.now c.args.at in
    step_starts c.args.block.now (shown c.in-Ok.nla) c.args.at c.raw_kind-kind.result c.value_length-size.result c.length.result
    c.nla_align.result c.past-next.result (λ i. omega (arith, c.type_inv.block i))
    (subst HoldsAttribute (take_rest c.args.block.now c.args.at) c.in-Ok.ensures.whole) view c.raw_kind-kind.ensures.number
    c.value_length-size.ensures.number c.length.ensures.number c.nla_align.ensures.least c.nla_align.ensures.multiple
    c.past-next.ensures.rest

pub returns-clause-inside : goal.returns-clause-inside
returns-clause-inside c =
    let view : shown c.in-Ok.nla ≡ drop c.args.at c.args.block.now =
    ap (λ (b : Bor (List ℕ)). b.now) c.in-Ok.ensures.keeps ∙ take_rest c.args.block.now c.args.at in
    step_inside c.args.block.now (shown c.in-Ok.nla) c.args.at c.value_length-size.result
    (subst HoldsAttribute (take_rest c.args.block.now c.args.at) c.in-Ok.ensures.whole) view
    c.value_length-size.ensures.number c.requires.inside
