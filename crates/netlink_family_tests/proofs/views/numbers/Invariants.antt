use Rattle.std.proofs.Common.{◌≡◌, ◌==◌, length}
use Rattle.std.specs.Option.{option_map}
use Rattle.netlink_packet_core.specs.Steps.{unread}
use Rattle.netlink_family.specs.Errors.{message_error, rest_error}
use Rattle.netlink_family.specs.Shapes.{has_type, named, within}
use Rattle.netlink_family.specs.declared.error.FamilyError.TheVariants.{InvalidAttribute}
use Rattle.netlink_family_tests.specs.declared.neighbours.TheConstants.{ROWS, RTM_GETNEIGH, TYPES}
use Rattle.netlink_family_tests.proofs.views.numbers.Given as goal

-- the payload's error is that of the rest of the walk
abbrev pub invariant-loop-item : goal.invariant-loop-item
invariant-loop-item l = record {
  later : message_error (has_type TYPES.now l.message_type) (l.message_type == RTM_GETNEIGH) 12 (named ROWS.now (λ name. name.now)) l.message_type l.payload
      ≡ option_map InvalidAttribute (rest_error (within (named ROWS.now (λ name. name.now)) l.item-iterator.block.now) (length l.payload)
      (unread l.item-iterator.walk));
  end : l.item-iterator.end ≡ length l.payload;
}
