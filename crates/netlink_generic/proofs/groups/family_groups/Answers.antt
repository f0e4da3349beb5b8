use Rattle.std.proofs.Common.{ap, ◌∙◌}
use Rattle.netlink_family.specs.Shapes.{rows_in}
use Rattle.netlink_generic.proofs.groups.family_groups.Goals as goal

pub invariant_of-result : goal.invariant_of-result
invariant_of-result c = record {
  rows = ap rows_in c.attributes.ensures.rows ∙ c.groups_view.ensures.rows;
  policy = c.attributes.ensures.policy ∙ c.groups_view.ensures.policy;
}
