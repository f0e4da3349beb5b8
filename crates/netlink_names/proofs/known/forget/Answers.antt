use Rattle.std.proofs.Common.{◌≡◌, ◌∙◌, ap, arith, inl, inr, length, rules}
use Rattle.std.proofs.lemmas.Fn.{filter_same}
use Rattle.netlink_names.specs.Known.{without}
use Rattle.netlink_names.proofs.Queue.{without_or_less}
use Rattle.netlink_names.proofs.known.forget.Goals as goal

pub returns-clause-list : goal.returns-clause-list
returns-clause-list c = filter_same _ _ _ (λ x b f' k. search rules) _ _ c.retain.ensures.filtered

pub returns-clause-room : goal.returns-clause-room
returns-clause-room c =
    let old = c.args.known.now in
    let new = c.retain.new.self in
    let list : new.items ≡ without c.args.index old.items =
    filter_same _ _ _ (λ x b f' k. search rules) _ _ c.retain.ensures.filtered in
    elim (without_or_less old.items c.args.index) [
      | inl same ↦ inl (list ∙ same)
      | inr less ↦ inr (omega (arith, ap length list, less, c.retain.ensures.capacity, new.ok.0, old.ok.0, old.ok.1))
    ]
