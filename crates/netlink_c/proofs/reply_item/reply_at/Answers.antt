use Rattle.std.proofs.Common.{ℕ, List, Bor, ap, ◌∙◌, rules}
use Rattle.std.proofs.lemmas.List.{take_rest}
use Rattle.netlink_packet_core.specs.Header.{field}
use Rattle.netlink_replies.specs.Meaning.{shown}
use Rattle.netlink_c.proofs.ReplyLemmas.{attributes_within, shows_reply}
use Rattle.netlink_c.proofs.reply_item.reply_at.Goals as goal

pub overflow_sub-result : goal.overflow_sub-result
overflow_sub-result c =
    let size = c.length-size.ensures.number
    ∙ ap (field 0 4) (ap (λ (b : Bor (List ℕ)). b.now) c.new.ensures.keeps ∙ take_rest c.args.bytes.now c.args.start) in
    attributes_within c.args.bytes.now c.args.start c.length-size.result c.sizes_of-before.result.2 (shown c.args.reply.now) c.requires.frame.0
    c.requires.frame.1 c.requires.frame.2 size c.sizes_of-before.ensures.attributes

pub returns-clause-shows : goal.returns-clause-shows
returns-clause-shows c =
    let size = c.length-size.ensures.number
    ∙ ap (field 0 4) (ap (λ (b : Bor (List ℕ)). b.now) c.new.ensures.keeps ∙ take_rest c.args.bytes.now c.args.start) in
    shows_reply c.args.bytes.now c.args.start c.length-size.result c.numbers_of-what.result.0 _ c.sizes_of-before.result.0
    c.sizes_of-before.result.1 c.sizes_of-before.result.2 (shown c.args.reply.now) c.requires.frame.0 c.requires.frame.1 c.requires.frame.2
    size c.numbers_of-what.ensures.what (search rules) c.sizes_of-before.ensures.start c.sizes_of-before.ensures.request
    c.sizes_of-before.ensures.attributes
