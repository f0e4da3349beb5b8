use Rattle.netlink_packet_core.specs.Steps.{unread}
use Rattle.netlink_replies.proofs.PathLemmas.{Seeks}
use Rattle.netlink_replies.proofs.path.seek.Given as goal

-- no attribute so far contains the offset
abbrev pub invariant-loop-item : goal.invariant-loop-item
invariant-loop-item l = Seeks l.offset l.block l.left (unread l.item-iterator)
