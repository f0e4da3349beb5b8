use Rattle.std.proofs.Common.{◌≡◌, ◌∙◌, ap, sym, ℕ}
use Rattle.netlink_family.specs.ErrorTexts.{error_text}
use Rattle.netlink_packet_core.specs.Refusal.{refusal_text}
use Rattle.netlink_lines.specs.Objects.{bad_parts, error_parts}
use Rattle.netlink_lines.proofs.Shown.{malformed_parts}
use Rattle.netlink_lines.proofs.objects.put_error.Goals as goal

pub returns-in_ok-why-in_default : goal.returns-in_ok-why-in_default
returns-in_ok-why-in_default c =
    let same : error_parts c.args.at c.args.frame.now c.args.error.now ≡ bad_parts c.args.at c.args.frame.now c.as_str.result.now =
    malformed_parts c.args.at c.args.frame.now c.args.error.now c.in_default.not-UnknownType
    ∙ ap (bad_parts c.args.at c.args.frame.now)
    (sym (c.in_ok-why-in_default.ensures ∙ ap (λ (t : ℕ). refusal_text t (error_text c.args.error.now)) c.type_of.ensures) ∙ sym c.as_str.ensures.value) in
    rw same c.put_bad.ensures
