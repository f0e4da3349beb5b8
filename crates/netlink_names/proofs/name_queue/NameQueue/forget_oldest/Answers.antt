use Rattle.std.proofs.Common.{◌≡◌, ◌∙◌, rules, sym}
use Rattle.std.specs.Prelude.{false, is_some}
use Rattle.netlink_names.proofs.Queue.{no_oldest, without_oldest}
use Rattle.netlink_names.proofs.name_queue.NameQueue.forget_oldest.Goals as goal

pub returns-in_default : goal.returns-in_default
returns-in_default c =
    let none : is_some c.first_key_value.result ≡ false = search rules in
    rw (← c.self.view_is)
    (no_oldest c.self.inside.places.entries c.self.inside.order.entries (λ more. sym none ∙ c.first_key_value.ensures.variant.1 more))

pub returns : goal.returns
returns c =
    c.forget.ensures ∙ rw (← c.self.view_is)
    (without_oldest c.self.inside.places.entries c.self.inside.order.entries c.self.inside.next _ _ c.self.invariant c.in-Some.ensures.first)
