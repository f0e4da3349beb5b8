use Rattle.std.proofs.Common.{◌≡◌, ◌-◌, ◌≤◌, drop, length}
use Rattle.netlink_c.proofs.ItemLemmas.{Left}
use Rattle.netlink_c.proofs.PolicyLemmas.{Fit}
use Rattle.netlink_c.proofs.policy.nlp_attrs_validate.Given as goal

-- the first attribute that does not fit is one of those that are left
abbrev pub invariant-loop-at : goal.invariant-loop-at
invariant-loop-at l = record {
  inside : l.at ≤ length l.block;
  unfaulted : l.fault ≡ l.fn.fault;
  kept : l.offset ≡ l.fn.offset;
  left : Left l.block (drop l.at l.block) (Fit l.policy l.block l.at);
}

abbrev pub decreases-loop-at : goal.decreases-loop-at
decreases-loop-at l = length l.block - l.at
