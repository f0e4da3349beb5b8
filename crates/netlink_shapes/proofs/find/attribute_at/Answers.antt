use Rattle.std.proofs.Common.{List, ℕ, ap, arith, drop, length-drop, subst, sym, Bor}
use Rattle.std.proofs.lemmas.List.{take_rest}
use Rattle.netlink_attributes.specs.Views.{HoldsAttribute}
use Rattle.netlink_shapes.specs.WholeWalks.{whole_here}
use Rattle.netlink_shapes.proofs.find.attribute_at.Goals as goal

pub returns-clause-whole : goal.returns-clause-whole
returns-clause-whole c =
    let left = length-drop c.args.at c.args.block.now in
    subst HoldsAttribute (sym (ap (λ (b : Bor (List ℕ)). b.now) c.new.ensures.keeps))
    (subst HoldsAttribute (sym (take_rest c.args.block.now c.args.at))
    (whole_here (drop c.args.at c.args.block.now) (omega (arith, left, c.requires.inside)) c.requires.whole))
