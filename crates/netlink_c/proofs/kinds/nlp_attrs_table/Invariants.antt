use Rattle.std.proofs.Common.{◌≡◌, ◌≤◌, length}
use Rattle.netlink_packet_core.specs.Steps.{unread}
use Rattle.netlink_c.proofs.ItemLemmas.{Fills, Left}
use Rattle.netlink_c.proofs.kinds.nlp_attrs_table.Given as goal

-- each entry is the last item of its kind that was passed, unless one is left
abbrev pub invariant-loop-step : goal.invariant-loop-step
invariant-loop-step l = record {
  shorter : length (unread l.step-iterator) ≤ length l.block;
  size : length l.table ≡ length l.fn.table;
  unfaulted : l.fault ≡ l.fn.fault;
  left : Left l.block (unread l.step-iterator) (Fills (length l.fn.table) l.table);
}
