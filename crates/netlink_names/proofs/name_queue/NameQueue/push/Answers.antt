use Rattle.std.proofs.Common.{◌≡◌, ℕ, ◌+◌, ◌∙◌, ◌++◌, ◌∷◌, [], List, None, Some, ap, arith, refl, rules}
use Rattle.netlink_names.specs.Known.{without}
use Rattle.netlink_names.specs.NameQueue.{names_by, number_at}
use Rattle.netlink_names.specs.declared.device.Known.{Known}
use Rattle.netlink_names.proofs.Queue.{names_again, names_more, queue_again, queue_more, taken_back}
use Rattle.netlink_names.proofs.name_queue.NameQueue.push.Goals as goal

-- the places take no link
pub invariant_of-self-in-Err : goal.invariant_of-self-in-Err
invariant_of-self-in-Err c =
    rw (
      c.in-Err.ensures.err,
      taken_back c.self.inside.places.entries c.self.inside.order.entries c.insert.new.self.entries c.remove-in-Err.new.self.entries
          c.self.inside.next c.args.index c.self.invariant c.in_ok-insert.ensures.entries c.remove-in-Err.ensures.entries,
    )
    c.self.invariant

pub returns-in-Err-clause-unchanged : goal.returns-in-Err-clause-unchanged
returns-in-Err-clause-unchanged c =
    rw (
      c.in-Err.ensures.err,
      taken_back c.self.inside.places.entries c.self.inside.order.entries c.insert.new.self.entries c.remove-in-Err.new.self.entries
          c.self.inside.next c.args.index c.self.invariant c.in_ok-insert.ensures.entries c.remove-in-Err.ensures.entries,
    )
    c.self.view_is

-- the link has a name
pub invariant_of-self-in-Some-old : goal.invariant_of-self-in-Some-old
invariant_of-self-in-Some-old c =
    let own : number_at c.self.inside.places.entries c.args.index ≡ Some c.in-Some-old.old.number = grind (arith, c.in-Ok.ensures.old, c.in-Some-old.is) in
    let sum : c.in-Some.next ≡ c.self.inside.next + 1 = search rules in
    rw sum
    (queue_again c.self.inside.places c.insert-2.new.self c.self.inside.order c.insert.new.self c.remove.new.self c.args.index c.in-Some-old.old.number
    c.self.inside.next _ c.self.invariant own refl c.in-Ok.ensures.updates c.in_ok-insert.ensures.updates c.in_ok-insert.ensures.entries
    c.remove.ensures.updates c.remove.ensures.entries)

pub returns-in-Some-old-clause-list : goal.returns-in-Some-old-clause-list
returns-in-Some-old-clause-list c =
    let own : number_at c.self.inside.places.entries c.args.index ≡ Some c.in-Some-old.old.number = grind (arith, c.in-Ok.ensures.old, c.in-Some-old.is) in
    let link : List ℕ → Known = λ name. record { index = c.args.index; name = name } in
    rw (c.remove.ensures.entries, c.in_ok-insert.ensures.entries, ← c.self.view_is)
    (names_again c.self.inside.places c.insert-2.new.self c.self.inside.order.entries c.args.index c.in-Some-old.old.number c.self.inside.next _ c.self.invariant
    own c.in-Ok.ensures.updates
    ∙ ap (λ (name : List ℕ). without c.args.index (names_by c.self.inside.places.entries c.self.inside.order.entries) ++ link name ∷ []) c.new-name.ensures.copies)

-- it has none
pub invariant_of-self-in_default-old : goal.invariant_of-self-in_default-old
invariant_of-self-in_default-old c =
    let none : number_at c.self.inside.places.entries c.args.index ≡ None = grind (arith, c.in-Ok.ensures.old, c.in_default-old.is) in
    let sum : c.in-Some.next ≡ c.self.inside.next + 1 = search rules in
    rw sum
    (queue_more c.self.inside.places c.insert-2.new.self c.self.inside.order c.insert.new.self c.args.index c.self.inside.next _
    c.self.invariant none refl c.in-Ok.ensures.updates c.in_ok-insert.ensures.updates c.in_ok-insert.ensures.entries)

pub returns-in_default-old-clause-list : goal.returns-in_default-old-clause-list
returns-in_default-old-clause-list c =
    let none : number_at c.self.inside.places.entries c.args.index ≡ None = grind (arith, c.in-Ok.ensures.old, c.in_default-old.is) in
    let link : List ℕ → Known = λ name. record { index = c.args.index; name = name } in
    rw (c.in_ok-insert.ensures.entries, ← c.self.view_is)
    (names_more c.self.inside.places c.insert-2.new.self c.self.inside.order.entries c.args.index c.self.inside.next _ c.self.invariant none c.in-Ok.ensures.updates
    ∙ ap (λ (name : List ℕ). without c.args.index (names_by c.self.inside.places.entries c.self.inside.order.entries) ++ link name ∷ []) c.new-name.ensures.copies)
