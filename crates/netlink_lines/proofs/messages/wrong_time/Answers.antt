use Rattle.std.proofs.Common.{rules, ◌≡◌, ◌∙◌, ◌++◌, ap, codes, decimal, length, sym, string_bytes}
use Rattle.netlink_packet_core.specs.Refusal.{refusal_text}
use Rattle.netlink_lines.specs.Messages.{bad, wrong_time}
use Rattle.netlink_lines.proofs.messages.wrong_time.Goals as goal

pub returns : goal.returns
returns c =
    let text : string_bytes c.in_ok-why.why
    ≡ refusal_text 15 (codes "the payload has " ++ (decimal (length c.args.payload.now) ++ codes " bytes instead of 8")) =
    search rules in
    let same : wrong_time c.args.at c.args.payload.now ≡ bad c.args.at c.as_str.result.now =
    ap (bad c.args.at) (sym text ∙ sym c.as_str.ensures.value) in
    rw same c.malformed.ensures
