use Rattle.std.proofs.Common.{List, Option, [], ap, refl}
use Rattle.netlink_packet_core.specs.Attribute.{Attribute}
use Rattle.netlink_packet_core.specs.ReadingLaws.{attributes_in-walk}
use Rattle.netlink_family.specs.Shapes.{all_shaped, is_shaped, nest_levels, rows_in, shape_among, within}
use Rattle.netlink_generic.proofs.groups.groups_view.Goals as goal

-- no attributes have their shapes
pub invariant_of-result : goal.invariant_of-result
invariant_of-result c =
    let rows = rows_in c.view-view.result.rows.list.now in
    record {
      shaped =
          ap (λ (all : Option (List Attribute)). all_shaped (λ a. is_shaped nest_levels rows (shape_among (within rows []) 3 a.kind) a.value) all)
          (attributes_in-walk [] [] refl);
    }
