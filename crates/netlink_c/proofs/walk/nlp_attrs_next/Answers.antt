use denote.Ref.{Bor}
use Rattle.std.proofs.Common.{ℕ, List, ap, ◌∙◌, arith}
use Rattle.std.proofs.lemmas.List.{take_rest}
use Rattle.netlink_packet_core.specs.Views.{raw_kind}
use Rattle.netlink_c.proofs.WalkLemmas.{attribute_found}
use Rattle.netlink_c.proofs.walk.nlp_attrs_next.Goals as goal

pub returns-in-Some-clause-item : goal.returns-in-Some-clause-item
returns-in-Some-clause-item c = λ _.
    attribute_found c.args.bytes.now _ c.args.cursor.now _ _ _ (λ i. omega (arith, c.type_inv.bytes i))
    (omega (arith, c.if-at-bytes.false)) (take_rest c.args.bytes.now c.args.cursor.now)
    c.in-Some.ensures.whole.0 (c.raw_kind-kind.ensures.number ∙ ap (λ (b : Bor (List ℕ)). raw_kind b.now) c.new.ensures.keeps)
    c.in-Some.ensures.whole.1 c.after.ensures.rest c.after.ensures.forward
