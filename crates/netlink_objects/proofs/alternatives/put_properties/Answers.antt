use Rattle.std.proofs.Common.{arith, ◌≡◌, ◌∙◌, ap, sym, List}
use Rattle.std.proofs.lemmas.Grind.{common_steps}
use Rattle.netlink_family.specs.ListingLaws.{before_nothing}
use Rattle.netlink_family.specs.Values.{value_shape}
use Rattle.netlink_family.specs.declared.shape.Shape.TheVariants as shape
use Rattle.netlink_json.specs.Fields.{items_written, with_items}
use Rattle.netlink_packet_core.specs.Attribute.{Attribute}
use Rattle.netlink_packet_core.specs.Steps.{unread}
use Rattle.netlink_route.specs.declared.links.TheConstants.{IFLA_ALT_IFNAME}
use Rattle.netlink_objects.proofs.Properties.{property_step}
use Rattle.netlink_objects.proofs.alternatives.put_properties.Goals as goal
use Rattle.netlink_objects.specs.Link.{alternatives}

pub loop-kind-preserved : goal.loop-kind-preserved
loop-kind-preserved c =
    let ((a, starts, kind, is, shaped, rows), same_rows, same_policy, block) = c.in-Some.ensures.steps in
    let named : c.in-Some.kind ≡ IFLA_ALT_IFNAME → value_shape c.in-Some.value ≡ shape.Str = λ at. grind (arith, common_steps) in (
      property_step (items_written c.loop-kind.items) (items_written c.put_property.new.items) _
          (unread c.loop-kind.kind-iterator.walk) (unread c.next.new.self.walk) a c.in-Some.kind c.in-Some.value starts kind is named
          c.in_ok-put_property.ensures c.loop-kind.invariant.0,
      rw same_rows c.loop-kind.invariant.1,
      same_policy ∙ c.loop-kind.invariant.2,
    )

pub returns : goal.returns
returns c =
    sym (ap (λ (l : List Attribute). with_items (items_written c.loop-kind.items) (alternatives l))
    (before_nothing (unread c.loop-kind.kind-iterator.walk) c.in-None.ensures.steps.0.0))
    ∙ c.loop-kind.invariant.0
