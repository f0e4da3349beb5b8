use Rattle.std.proofs.Common.{◌∙◌, ℕ, List, Some, ap, sym}
use Rattle.std.specs.Prelude.{option_map}
use Rattle.netlink_names.specs.declared.name_queue.Place.{Place}
use Rattle.netlink_names.proofs.Queue.{name_of_queue}
use Rattle.netlink_names.proofs.name_queue.NameQueue.name_of.Goals as goal

pub returns-in-Some : goal.returns-in-Some
returns-in-Some c =
    rw (← c.self.view_is)
    (ap (λ (n : List ℕ). Some n) c.bytes.ensures.bytes ∙ ap (option_map (λ (p : Place). p.name)) c.in-Some.ensures.value
    ∙ sym (name_of_queue c.self.inside.places.entries c.self.inside.order.entries c.self.inside.next c.args.index c.self.invariant))

pub returns-in-None : goal.returns-in-None
returns-in-None c =
    rw (← c.self.view_is)
    (ap (option_map (λ (p : Place). p.name)) c.in-None.ensures.value
    ∙ sym (name_of_queue c.self.inside.places.entries c.self.inside.order.entries c.self.inside.next c.args.index c.self.invariant))
