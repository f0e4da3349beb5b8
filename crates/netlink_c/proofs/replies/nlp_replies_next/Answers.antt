use Rattle.std.proofs.Common.{◌≡◌, ℕ, List, None, Some, Err, ap, sym, subst, ◌∙◌, drop}
use Rattle.netlink_packet_core.specs.DecodeError.{DecodeError}
use Rattle.netlink_replies.specs.Reads.{Gives}
use Rattle.netlink_replies.specs.declared.replies.Replies.{Replies}
use Rattle.netlink_c.specs.Fault.{Refuses}
use Rattle.netlink_c.specs.ReplyItems.{GivesReply}
use Rattle.netlink_c.specs.States.{state_from}
use Rattle.netlink_c.proofs.StateLemmas.{state_back}
use Rattle.netlink_c.proofs.replies.nlp_replies_next.Goals as goal

pub returns-clause-reply : goal.returns-clause-reply
returns-clause-reply c = λ done.
    let s : Replies = state_from c.args.replies.now in
    let last : state_from c.numbers_of.result ≡ c.read-result.new.state = ap state_from c.numbers_of.ensures ∙ state_back c.read-result.new.state in
    subst (λ (t : Replies). GivesReply s c.args.bytes.now c.args.cursor.now c.read-result.new.reply t c.read-result.new.cursor) (sym last)
    (subst (λ (t : Replies). GivesReply t c.args.bytes.now c.args.cursor.now c.read-result.new.reply c.read-result.new.state c.read-result.new.cursor)
    c.state_of-state.ensures (c.read-result.ensures.reply done))

pub returns-clause-end : goal.returns-clause-end
returns-clause-end c = λ ended.
    let s : Replies = state_from c.args.replies.now in
    let bytes : List ℕ = drop c.args.cursor.now c.args.bytes.now in
    let rest : List ℕ = drop c.read-result.new.cursor c.args.bytes.now in
    let last : state_from c.numbers_of.result ≡ c.read-result.new.state = ap state_from c.numbers_of.ensures ∙ state_back c.read-result.new.state in
    let then = c.read-result.ensures.end ended in (
      subst (λ (t : Replies). Gives s bytes None t rest) (sym last)
          (subst (λ (t : Replies). Gives t bytes None c.read-result.new.state rest) c.state_of-state.ensures then.0),
      then.1,
    )

pub returns-clause-refuses : goal.returns-clause-refuses
returns-clause-refuses c = λ failed more.
    let s : Replies = state_from c.args.replies.now in
    let bytes : List ℕ = drop c.args.cursor.now c.args.bytes.now in
    let rest : List ℕ = drop c.read-result.new.cursor c.args.bytes.now in
    let last : state_from c.numbers_of.result ≡ c.read-result.new.state = ap state_from c.numbers_of.ensures ∙ state_back c.read-result.new.state in
    let then = c.read-result.ensures.refuses failed more in (
      subst (λ (t : Replies). Refuses (λ (e : DecodeError). Gives s bytes (Some (Err e)) t rest) c.read-result.result c.read-result.new.fault) (sym last)
          (subst (λ (t : Replies). Refuses (λ (e : DecodeError). Gives t bytes (Some (Err e)) c.read-result.new.state rest) c.read-result.result
          c.read-result.new.fault) c.state_of-state.ensures then.0),
      then.1,
      then.2,
    )
