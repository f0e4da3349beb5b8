use Rattle.std.proofs.Common.{◌≡◌, ◌<◌, ◌∙◌, ap, arith, sym, subst, List, ℕ, [], string_bytes}
use Rattle.netlink_lines.specs.Ack.{IsWords}
use Rattle.netlink_lines.specs.Check.{check_of}
use Rattle.netlink_lines.specs.Messages.{Check, Lines, good, memory_of}
use Rattle.netlink_packet_core.specs.Header.{header_of}
use Rattle.netlink_replies.specs.Meaning.{shown_item}
use Rattle.netlink_lines.proofs.Shown.{knows_other, tells_object, tells_time_object, time_type}
use Rattle.netlink_lines.proofs.objects.object_shown.Goals as goal

pub returns-in-Some : goal.returns-in-Some
returns-in-Some g c =
    let check : Check = check_of g.F.Table in
    let none : ◌≡◌ {A = Lines} (string_bytes c.well_formed-in-Some.result.text, c.well_formed-in-Some.result.is_malformed) (good []) =
    c.well_formed-in-Some.ensures ∙ ap good c.new.ensures.bytes in
    let less : (header_of c.args.frame.now).message_type < 16 =
    omega (arith, time_type c.args.frame.now c.in-Some.field-0 c.in-Some.ensures.time) in
    record {
      tells =
          tells_time_object check c.args.at c.args.frame.now (memory_of c.args.state.now) _ c.time_in-time.result c.args.state.now.known
          c.in-Some.field-0 c.time_in-time.ensures.time (knows_other check c.args.frame.now _ less) c.in-Some.ensures.time none;
    }

pub returns-in_ok-words-in-None : goal.returns-in_ok-words-in-None
returns-in_ok-words-in-None g c =
    let check : Check = check_of g.F.Table in
    let says : IsWords (shown_item c.meaning_of-item.result) c.as_str.result.now =
    subst (λ (w : List ℕ). IsWords (shown_item c.meaning_of-item.result) w) (sym c.as_str.ensures.value) c.in_ok-words-in-None.ensures.words in
    record {
      tells =
          tells_object check c.args.at c.args.frame.now c.as_str.result.now (memory_of c.args.state.now) (shown_item c.meaning_of-item.result)
          c.learn_frame.new.known c.names-known.result c.frame_object.result c.in_ok-learn_frame-in-None.ensures.names c.in-None.ensures.time
          c.names-known.ensures c.meaning_of-item.ensures.item says c.frame_object.ensures;
    }
