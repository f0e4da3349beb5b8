use Rattle.std.proofs.Common.{◌≡◌, ◌≤◌, length}
use Rattle.netlink_packet_core.specs.Steps.{unread}
use Rattle.netlink_c.proofs.ItemLemmas.{Left, Seeks}
use Rattle.netlink_c.proofs.kinds.nlp_attrs_find.Given as goal

-- the last item of the kind is the one that was kept, or one of those that are left
abbrev pub invariant-loop-step : goal.invariant-loop-step
invariant-loop-step l = record {
  shorter : length (unread l.step-iterator) ≤ length l.block;
  unfaulted : l.fault ≡ l.fn.fault;
  left : Left l.block (unread l.step-iterator) (Seeks l.kind l.fn.item l.item l.found);
}
