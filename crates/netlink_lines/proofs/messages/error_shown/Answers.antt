use Rattle.std.proofs.Common.{rules, ◌≡◌, ◌∙◌, ap, sym, ℕ, string_bytes}
use Rattle.netlink_family.specs.ErrorTexts.{error_text}
use Rattle.netlink_family.specs.declared.error.FamilyError.TheVariants.{UnknownType}
use Rattle.netlink_packet_core.specs.Refusal.{refusal_text}
use Rattle.netlink_lines.specs.Messages.{bad, error_lines}
use Rattle.netlink_lines.proofs.Shown.{malformed_lines}
use Rattle.netlink_lines.proofs.messages.error_shown.Goals as goal

pub returns-in_ok-why-in_default : goal.returns-in_ok-why-in_default
returns-in_ok-why-in_default c =
    let text : string_bytes c.in_ok-why-in_default.why ≡ refusal_text c.args.message_type (error_text c.args.error.now) =
    search rules in
    let not : (n : ℕ) → c.args.error.now ≡ UnknownType n → ⊥ = c.in_default.not-UnknownType in
    let same : error_lines c.args.at c.args.message_type c.args.size c.args.error.now ≡ bad c.args.at c.as_str.result.now =
    malformed_lines c.args.at c.args.message_type c.args.size c.args.error.now not
    ∙ ap (bad c.args.at) (sym text ∙ sym c.as_str.ensures.value) in
    rw same c.malformed.ensures
