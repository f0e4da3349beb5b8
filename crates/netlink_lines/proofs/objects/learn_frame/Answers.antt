use Rattle.std.proofs.Common.{rules, ◌≡◌, List, None, Option, Some, ℕ}
use Rattle.netlink_lines.specs.Check.{check_of}
use Rattle.netlink_family.specs.declared.error.FamilyError.{FamilyError}
use Rattle.netlink_packet_core.specs.Header.{header_of, payload_of}
use Rattle.netlink_lines.specs.Messages.{Check}
use Rattle.netlink_lines.proofs.Shown.{knows_error, knows_message, on_ok_then}
use Rattle.netlink_lines.proofs.objects.learn_frame.Goals as goal

pub returns-in-Ok : goal.returns-in-Ok
returns-in-Ok g c =
    let check : Check = check_of g.F.Table in
    let frame : List ℕ = c.args.frame.now in
    let type : c.in-Ok.message.message_type ≡ (header_of frame).message_type = search rules in
    let payload : c.in-Ok.message.payload.now ≡ payload_of frame = search rules in
    let good : check.error (header_of frame).message_type (payload_of frame) ≡ None = search rules in
    record { names = on_ok_then c.learn.result (knows_message check frame _ _ _ _ _ c.flags_of.ensures type payload good) c.learn.ensures }

pub returns-in-Err : goal.returns-in-Err
returns-in-Err g c =
    let check : Check = check_of g.F.Table in
    let frame : List ℕ = c.args.frame.now in
    let bad : ◌≡◌ {A = Option FamilyError} (check.error (header_of frame).message_type (payload_of frame)) (Some c.in-Err.field-0) = search rules in
    record { names = knows_error check frame _ c.in-Err.field-0 bad }
