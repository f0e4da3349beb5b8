use Rattle.std.proofs.Common.{◌≡◌, ◌∙◌, ap, subst, ℕ, List, Bor}
use Rattle.netlink_packet_core.specs.Header.{field}
use Rattle.netlink_replies.specs.Answers.{waiting}
use Rattle.netlink_replies.specs.Reads.{TakesFrame}
use Rattle.netlink_replies.specs.declared.replies.Replies.{Replies}
use Rattle.netlink_lines.proofs.Frames.{asking, taken_meaning}
use Rattle.netlink_lines.proofs.ack.meaning_of.Goals as goal

pub returns : goal.returns
returns c =
    let frame : List ℕ = c.args.frame.now in
    let number : c.sequence_number.result ≡ field 8 4 frame =
    c.sequence_number.ensures.number ∙ ap (λ (b : Bor (List ℕ)). field 8 4 b.now) c.new.ensures.keeps in
    let state : c.new-2.result ≡ waiting (asking (field 8 4 frame)) =
    c.new-2.ensures ∙ ap (λ (n : ℕ). waiting (asking n)) number in
    record {
      item =
          taken_meaning frame c.take.result c.take.new.self c.requires.whole
          (subst (λ (s : Replies). TakesFrame s frame c.take.result c.take.new.self) state c.take.ensures);
    }
