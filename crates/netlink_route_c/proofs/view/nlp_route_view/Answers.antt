use Rattle.netlink_route_c.proofs.Shaped.{whole_is_view}
use Rattle.netlink_route_c.proofs.view.nlp_route_view.Goals as goal

pub returns-then-result-eq-OK-clause-shaped : goal.returns-then-result-eq-OK-clause-shaped
returns-then-result-eq-OK-clause-shaped c = λ ok.
    whole_is_view _ _ _ c.args.message_type c.args.payload.now _ c.first_rows.ensures (c.write_view-result.ensures.view ok)
    (c.write_view-result.ensures.shaped ok)
