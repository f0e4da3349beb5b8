use Rattle.std.proofs.Common.{List, ℕ, subst, sym}
use Rattle.netlink_shapes.specs.Shapes.{rows_in, within}
use Rattle.netlink_shapes.specs.Fitting.{AreShaped}
use Rattle.netlink_shapes.specs.Choices.{none_chosen}
use Rattle.netlink_blocks.proofs.block_view.BlockView.attributes.Goals as goal

pub invariant_of-result-clause-shaped : goal.invariant_of-result-clause-shaped
invariant_of-result-clause-shaped c =
    ∣ subst (λ (b : List ℕ). AreShaped (within (rows_in c.args.self.now.rows.list.now) c.args.self.now.block.now) c.args.self.now.policy b) (sym c.new.ensures.keeps) c.are_shaped.ensures ∣₁

pub invariant_of-result-clause-chosen : goal.invariant_of-result-clause-chosen
invariant_of-result-clause-chosen c = none_chosen (within (rows_in c.args.self.now.rows.list.now) c.args.self.now.block.now) c.args.self.now.policy
