use Rattle.netlink_names.proofs.Queue.{empty_queue}
use Rattle.netlink_names.proofs.name_queue.NameQueue.new.Goals as goal

pub invariant_of-result : goal.invariant_of-result
invariant_of-result c = empty_queue _ _ c.new-2.ensures.empty c.new.ensures.empty
