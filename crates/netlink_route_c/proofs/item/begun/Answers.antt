use Rattle.std.proofs.Common.{arith}
use Rattle.netlink_route_c.proofs.Items.{begins}
use Rattle.netlink_route_c.proofs.item.begun.Goals as goal

pub returns : goal.returns
returns c = λ is. begins _ c.args.payload.now c.args.view.now (λ i. omega (arith, c.type_inv.payload i)) is
