use Rattle.std.proofs.Common.{◌-◌, length}
use Rattle.netlink_replies.proofs.ReadLemmas.{Progress}
use Rattle.netlink_replies.proofs.replies.Replies.next_at.Given as goal

-- the frames before the cursor are noops
abbrev pub invariant-loop-cursor : goal.invariant-loop-cursor
invariant-loop-cursor l = Progress l.fn.self l.datagram l.fn.cursor l.self l.cursor

abbrev pub decreases-loop-cursor : goal.decreases-loop-cursor
decreases-loop-cursor l = length l.datagram - l.cursor
