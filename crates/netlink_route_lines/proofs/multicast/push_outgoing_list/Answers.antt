use Rattle.std.proofs.Common.{arith, ◌≡◌, ◌∙◌, ap, string_bytes, sym}
use Rattle.std.proofs.lemmas.Grind.{common_steps}
use Rattle.std.specs.List.{fold}
use Rattle.netlink_packet_core.specs.Steps.{unread}
use Rattle.netlink_family.specs.ListingLaws.{before_nothing}
use Rattle.netlink_family.specs.Values.{value_shape}
use Rattle.netlink_family.specs.declared.shape.Shape.TheVariants.{HeaderNested}
use Rattle.netlink_route_lines.specs.Multicast.{with_outgoing}
use Rattle.netlink_route_lines.proofs.Hops.{outgoing_step}
use Rattle.netlink_route_lines.proofs.multicast.push_outgoing_list.Goals as goal

pub loop-word-preserved : goal.loop-word-preserved
loop-word-preserved c =
    let ((a, starts, kind, is, shape, rows), same_rows, same_policy, block) = c.in-Some.ensures.steps in
    let nest : value_shape c.in-Some.value ≡ HeaderNested 4 0 = grind (arith, common_steps) in (
      outgoing_step c.args.known.now (string_bytes c.loop-word.text) (string_bytes c.push_outgoing.new.text)
          (unread c.loop-word.word-iterator.walk) (unread c.next.new.self.walk) _ a c.in-Some.word c.in-Some.value starts kind is nest
          c.in_ok-push_outgoing.ensures c.loop-word.invariant.0,
      rw same_rows c.loop-word.invariant.1,
      same_policy ∙ c.loop-word.invariant.2,
    )

pub returns : goal.returns
returns c =
    sym (ap (fold (with_outgoing c.args.known.now) (string_bytes c.loop-word.text))
    (before_nothing (unread c.loop-word.word-iterator.walk) c.in-None.ensures.steps.0.0))
    ∙ c.loop-word.invariant.0
