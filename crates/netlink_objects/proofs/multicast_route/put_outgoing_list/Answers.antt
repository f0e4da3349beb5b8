use Rattle.std.proofs.Common.{arith, ◌≡◌, ◌∙◌, List, ap, map, sym}
use Rattle.std.proofs.lemmas.Grind.{common_steps}
use Rattle.netlink_packet_core.specs.Attribute.{Attribute}
use Rattle.netlink_packet_core.specs.Steps.{unread}
use Rattle.netlink_family.specs.ListingLaws.{before_nothing}
use Rattle.netlink_family.specs.Values.{value_shape}
use Rattle.netlink_family.specs.declared.shape.Shape.TheVariants.{HeaderNested}
use Rattle.netlink_json.specs.Fields.{items_written, with_items}
use Rattle.netlink_objects.specs.RouteHops.{outgoing_json}
use Rattle.netlink_objects.proofs.Hops.{outgoing_step}
use Rattle.netlink_objects.proofs.multicast_route.put_outgoing_list.Goals as goal

pub loop-word-preserved : goal.loop-word-preserved
loop-word-preserved c =
    let ((a, starts, kind, is, shape, rows), same_rows, same_policy, block) = c.in-Some.ensures.steps in
    let nest : value_shape c.in-Some.value ≡ HeaderNested 4 0 = grind (arith, common_steps) in (
      outgoing_step c.args.known.now (items_written c.loop-word.items) (items_written c.put_outgoing.new.items) _
          (unread c.loop-word.word-iterator.walk) (unread c.next.new.self.walk) a c.in-Some.word c.in-Some.value starts kind is nest
          c.in_ok-put_outgoing.ensures c.loop-word.invariant.0,
      rw same_rows c.loop-word.invariant.1,
      same_policy ∙ c.loop-word.invariant.2,
    )

pub returns : goal.returns
returns c =
    sym (ap (λ (l : List Attribute). with_items (items_written c.loop-word.items) (map (outgoing_json c.args.known.now) l))
    (before_nothing (unread c.loop-word.word-iterator.walk) c.in-None.ensures.steps.0.0))
    ∙ c.loop-word.invariant.0
