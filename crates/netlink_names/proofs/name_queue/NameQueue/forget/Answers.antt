use Rattle.std.proofs.Common.{◌≡◌, None, Some, ap, arith, sym}
use Rattle.netlink_names.specs.NameQueue.{number_at, number_of}
use Rattle.netlink_names.proofs.Queue.{names_apart, names_without, queue_apart, queue_left}
use Rattle.netlink_names.proofs.name_queue.NameQueue.forget.Goals as goal

-- the link has no place
pub invariant_of-self : goal.invariant_of-self
invariant_of-self c =
    let none : number_at c.self.inside.places.entries c.args.index ≡ None = grind (arith, c.remove.ensures.value) in
    queue_apart c.self.inside.places c.remove.new.self c.self.inside.order.entries c.args.index c.self.inside.next c.self.invariant none c.remove.ensures.updates

pub returns-in_default : goal.returns-in_default
returns-in_default c =
    let none : number_at c.self.inside.places.entries c.args.index ≡ None = grind (arith, c.remove.ensures.value) in
    rw (← c.self.view_is)
    (names_apart c.self.inside.places c.remove.new.self c.self.inside.order.entries c.args.index c.self.inside.next c.self.invariant none c.remove.ensures.updates)

-- it has one
pub invariant_of-self-2 : goal.invariant_of-self-2
invariant_of-self-2 c =
    queue_left c.self.inside.places c.remove.new.self c.self.inside.order c.remove-2.new.self c.args.index c.in-Some.place.number c.self.inside.next
    c.self.invariant (ap number_of (sym c.in-Some.ensures.value)) c.remove.ensures.updates c.remove-2.ensures.updates c.remove-2.ensures.entries

pub returns : goal.returns
returns c =
    rw (c.remove-2.ensures.entries, ← c.self.view_is)
    (names_without c.self.inside.places c.remove.new.self c.self.inside.order.entries c.args.index c.in-Some.place.number c.self.inside.next
    c.self.invariant (ap number_of (sym c.in-Some.ensures.value)) c.remove.ensures.updates)
