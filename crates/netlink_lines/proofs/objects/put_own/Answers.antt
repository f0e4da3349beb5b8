use Rattle.std.proofs.Common.{rules, ◌≡◌, ◌∙◌, ap, sym, List, ℕ}
use Rattle.netlink_packet_core.specs.Header.{header_of, payload_of}
use Rattle.netlink_packet_core.specs.Refusal.{refusal_text}
use Rattle.netlink_lines.specs.Check.{check_of}
use Rattle.netlink_lines.specs.Objects.{bad_parts, own_parts}
use Rattle.netlink_lines.specs.Time.{time_why}
use Rattle.netlink_lines.proofs.objects.put_own.Goals as goal

pub returns-then-message_type-eq-NLMSG_TSTAMP : goal.returns-then-message_type-eq-NLMSG_TSTAMP
returns-then-message_type-eq-NLMSG_TSTAMP g c =
    let frame : List ℕ = c.args.frame.now in
    let is : (header_of frame).message_type ≡ 15 = search rules in
    let why : c.as_str.result.now ≡ refusal_text 15 (time_why (payload_of frame)) =
    c.as_str.ensures.value ∙ c.in_ok-why.ensures ∙ ap (λ (p : List ℕ). refusal_text 15 (time_why p)) c.payload_of.ensures in
    let same : own_parts (check_of g.F.Table) c.args.known.now c.args.at frame ≡ bad_parts c.args.at frame c.as_str.result.now =
    rw is (sym (ap (bad_parts c.args.at frame) why)) in
    rw same c.put_bad.ensures
