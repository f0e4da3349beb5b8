use Rattle.std.proofs.Common.{◌≡◌, ◌++◌, map}
use Rattle.netlink_names.specs.NameQueue.{link_at, names_by}
use Rattle.netlink_names.proofs.name_queue.list_of.Given as goal

-- the list, and the links that are left
abbrev pub invariant-loop-index : goal.invariant-loop-index
invariant-loop-index l = l.list.items ++ map (link_at l.places.entries) l.index-iterator ≡ names_by l.places.entries l.order.entries
