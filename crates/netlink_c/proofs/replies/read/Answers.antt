use Rattle.netlink_replies.specs.Meaning.{shown}
use Rattle.netlink_c.proofs.ReplyLemmas.{gives_reply}
use Rattle.netlink_c.proofs.replies.read.Goals as goal

pub returns-in-Some-Ok-clause-reply : goal.returns-in-Some-Ok-clause-reply
returns-in-Some-Ok-clause-reply c = λ _.
    let gives = rw c.in-Some-Ok.field-0-is at c.in-Some-Ok.ensures.items in
    let means = rw c.in-Some-Ok.field-0-is at c.in-Some-Ok.ensures.frame in
    gives_reply c.args.state.now c.args.bytes.now c.args.cursor.now c.reply_at.result c.next_at.new.self c.next_at.new.cursor
    c.next_at.new.start (shown c.in-Some-Ok.item) gives means c.in-Some-Ok.ensures.between.0 c.in-Some-Ok.ensures.between.1
    c.in-Some-Ok.ensures.inside c.reply_at.ensures.start c.reply_at.ensures.size c.reply_at.ensures.shows

pub returns-in-Some-Err-clause-refuses : goal.returns-in-Some-Err-clause-refuses
returns-in-Some-Err-clause-refuses c = λ _ _.
    let gives = rw c.in-Some-Err.field-0-is at c.in-Some-Err.ensures.items in (
      (c.in-Some-Err.cause, gives, c.refused.ensures.number, c.refused.ensures.numbers),
      c.in-Some-Err.ensures.moves,
      c.in-Some-Err.ensures.inside,
    )
