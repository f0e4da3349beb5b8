use Rattle.std.proofs.Common.{◌≡◌, ◌∙◌, ap, sym, subst, List, ℕ, Bor, string_bytes}
use Rattle.netlink_lines.specs.Check.{check_of}
use Rattle.netlink_packet_core.specs.Header.{header_of}
use Rattle.netlink_replies.specs.Meaning.{shown_item}
use Rattle.netlink_lines.specs.Ack.{IsWords}
use Rattle.netlink_lines.proofs.Shown.{has_lines}
use Rattle.netlink_lines.proofs.messages.lines_of.Goals as goal

pub returns : goal.returns
returns g c =
    let flags : c.flags.result ≡ (header_of c.args.frame.now).flags =
    c.flags.ensures.number ∙ ap (λ (b : Bor (List ℕ)). (header_of b.now).flags) c.new.ensures.keeps in
    let says : IsWords (shown_item c.meaning_of-item.result) c.as_str.result.now =
    subst (λ (w : List ℕ). IsWords (shown_item c.meaning_of-item.result) w) (sym c.as_str.ensures.value) c.in_ok-words.ensures.words in
    record {
      lines =
          has_lines (check_of g.F.Table) c.args.options c.args.known.now c.args.at
          c.args.frame.now c.as_str.result.now (shown_item c.meaning_of-item.result) c.flags.result
          (string_bytes c.in_ok-shown.shown.text, c.in_ok-shown.shown.is_malformed) c.marked.result c.meaning_of-item.ensures.item
          says flags c.in_ok-shown.ensures c.marked.ensures;
    }
