use Rattle.std.proofs.Common.{ℕ, List, ap, ◌∙◌, ◌≡◌, drop, Bor}
use Rattle.std.proofs.lemmas.List.{take_rest}
use Rattle.netlink_packet_core.specs.Views.{length_field, shown}
use Rattle.netlink_route_c.proofs.Places.{place_found}
use Rattle.netlink_route_c.proofs.find.place.Goals as goal

pub returns-clause-some : goal.returns-clause-some
returns-clause-some c =
    let view : shown c.new.result ≡ drop c.in_ok-at.at c.in_ok-block.block.now =
    ap (λ (b : Bor (List ℕ)). b.now) c.new.ensures.keeps ∙ take_rest c.in_ok-block.block.now c.in_ok-at.at in
    place_found c.args.payload.now c.in_ok-block.block.now c.args.view.now c.args.kind c.in_ok-at.at c.value_length.result
    c.in_ok-block.ensures.some.0 c.in_ok-block.ensures.some.1 c.in_ok-at.ensures.some c.in_ok-at.ensures.whole
    (c.value_length.ensures.number ∙ ap length_field view)
