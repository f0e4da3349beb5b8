use Rattle.netlink_packet_core.specs.Steps.{unread}
use Rattle.netlink_replies.proofs.PlaceLemmas.{IsRest}
use Rattle.netlink_replies.proofs.Values.{Searches}
use Rattle.netlink_replies.proofs.extended_ack.ExtendedAck.place.Given as goal

-- no attribute so far is of this kind
abbrev pub invariant-loop-item : goal.invariant-loop-item
invariant-loop-item l = record {
  searches : Searches l.kind l.self.attributes.now (unread l.item-iterator);
  rest : IsRest l.self.attributes.now (unread l.item-iterator);
}
