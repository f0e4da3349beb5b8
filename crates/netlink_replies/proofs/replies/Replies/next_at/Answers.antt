use Rattle.std.proofs.Common.{ℕ, List, drop}
use Rattle.std.proofs.lemmas.List.{drop_all}
use Rattle.netlink_replies.proofs.ReadLemmas.{skip_end, skip_item}
use Rattle.netlink_replies.specs.Meaning.{shown_result}
use Rattle.netlink_replies.proofs.replies.Replies.next_at.Goals as goal

pub returns-in-Some-clause-items : goal.returns-in-Some-clause-items
returns-in-Some-clause-items c =
    let datagram : List ℕ = c.args.datagram.now in
    skip_item c.args.self.now (drop c.args.cursor.now datagram) c.loop-cursor.self
    (drop c.loop-cursor.cursor datagram) (shown_result c.in-Some.item) c.step.new.self
    (drop c.step.new.cursor datagram) c.loop-cursor.invariant.skips c.in-Some.ensures.frame

pub returns-clause-items : goal.returns-clause-items
returns-clause-items c =
    let datagram : List ℕ = c.args.datagram.now in
    skip_end c.args.self.now (drop c.args.cursor.now datagram) c.loop-cursor.self
    (drop c.loop-cursor.cursor datagram) c.loop-cursor.invariant.skips
    (drop_all c.loop-cursor.cursor datagram c.loop-cursor-test.false)
