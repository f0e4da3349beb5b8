use Rattle.std.proofs.Common.{rules, ◌≡◌, ◌≤◌, ◌<◌, ◌∙◌, ap, Bor, List, ℕ, [], string_bytes}
use Rattle.netlink_lines.specs.Check.{check_of}
use Rattle.netlink_packet_core.specs.Header.{header_of}
use Rattle.netlink_lines.specs.Messages.{Check, Lines, good, memory_of}
use Rattle.netlink_lines.proofs.Shown.{knows_other, tells_lines, tells_own, tells_time}
use Rattle.netlink_lines.proofs.messages.message_lines.Goals as goal

pub returns-then-message_type-ge-MIN_TYPE : goal.returns-then-message_type-ge-MIN_TYPE
returns-then-message_type-ge-MIN_TYPE g c =
    let check : Check = check_of g.F.Table in
    let shown = c.in_ok-shown.shown in
    let after = c.in_ok-shown-2.shown in
    let least : 16 ≤ (header_of c.args.frame.now).message_type = search rules in
    let flags : c.flags.result ≡ (header_of c.args.frame.now).flags =
    c.flags.ensures.number ∙ ap (λ (b : Bor (List ℕ)). (header_of b.now).flags) c.new-then-message_type-ge-MIN_TYPE.ensures.keeps in
    record {
      tells =
          tells_own check c.args.at c.args.frame.now (memory_of c.args.state.now) c.family_shown.new.known c.flags.result
          (string_bytes shown.text, shown.is_malformed) (string_bytes after.text, after.is_malformed) c.timed.result least
          c.in_ok-shown.ensures.names flags c.in_ok-shown.ensures.lines c.in_ok-shown-2.ensures c.timed.ensures;
    }

pub returns-in-Some : goal.returns-in-Some
returns-in-Some g c =
    let check : Check = check_of g.F.Table in
    let none : ◌≡◌ {A = Lines} (string_bytes c.well_formed-in-Some.result.text, c.well_formed-in-Some.result.is_malformed) (good []) =
    c.well_formed-in-Some.ensures ∙ ap good c.new-in-Some.ensures.bytes in
    let less : (header_of c.args.frame.now).message_type < 16 = search rules in
    record {
      tells =
          tells_time check c.args.at c.args.frame.now (memory_of c.args.state.now) _ c.time_in-time.result c.args.state.now.known
          c.in-Some.field-0 c.time_in-time.ensures.time (knows_other check c.args.frame.now _ less) c.in-Some.ensures.time none;
    }

pub returns-in_ok-shown-in-None : goal.returns-in_ok-shown-in-None
returns-in_ok-shown-in-None g c =
    let check : Check = check_of g.F.Table in
    let shown = c.in_ok-shown-in-None.shown in
    let less : (header_of c.args.frame.now).message_type < 16 = search rules in
    record {
      tells =
          tells_lines check c.args.at c.args.frame.now (memory_of c.args.state.now) (string_bytes shown.text, shown.is_malformed)
          c.args.state.now.known c.names.result c.timed-in-None.result
          (knows_other check c.args.frame.now _ less) c.in-None.ensures.time c.names.ensures
          c.in_ok-shown-in-None.ensures.lines c.timed-in-None.ensures;
    }
