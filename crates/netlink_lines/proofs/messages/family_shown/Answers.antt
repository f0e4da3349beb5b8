use Rattle.std.proofs.Common.{rules, ◌≡◌, ◌∙◌, ap, Bor, List, None, Option, Some, ℕ}
use Rattle.netlink_lines.specs.Check.{check_of}
use Rattle.netlink_family.specs.declared.error.FamilyError.{FamilyError}
use Rattle.netlink_packet_core.specs.Header.{header_of, payload_of}
use Rattle.netlink_lines.specs.Messages.{Check}
use Rattle.netlink_lines.proofs.Shown.{knows_error, knows_message, on_ok}
use Rattle.netlink_lines.proofs.messages.family_shown.Goals as goal

pub returns-in_ok-learn-in-Ok-clause-names : goal.returns-in_ok-learn-in-Ok-clause-names
returns-in_ok-learn-in-Ok-clause-names g c =
    let check : Check = check_of g.F.Table in
    let frame : List ℕ = c.args.frame.now in
    let flags : c.flags-flags.result ≡ (header_of frame).flags =
    c.flags-flags.ensures.number ∙ ap (λ (b : Bor (List ℕ)). (header_of b.now).flags) c.new-view.ensures.keeps in
    let type : c.in-Ok.message.message_type ≡ (header_of frame).message_type = search rules in
    let payload : c.in-Ok.message.payload.now ≡ payload_of frame = search rules in
    let good : check.error (header_of frame).message_type (payload_of frame) ≡ None = search rules in
    on_ok c.message_shown.result (knows_message check frame _ _ _ _ _ flags type payload good c.in_ok-learn-in-Ok.ensures)

pub returns-in-Err-clause-names : goal.returns-in-Err-clause-names
returns-in-Err-clause-names g c =
    let check : Check = check_of g.F.Table in
    let frame : List ℕ = c.args.frame.now in
    let bad : ◌≡◌ {A = Option FamilyError} (check.error (header_of frame).message_type (payload_of frame)) (Some c.in-Err.error) = search rules in
    on_ok c.rejected.result (knows_error check frame _ c.in-Err.error bad)
