use Rattle.std.proofs.Common.{refl, ap, ℕ, List, []}
use Rattle.std.specs.Prelude.{false}
use Rattle.netlink_lines.specs.Messages.{good}
use Rattle.netlink_lines.proofs.blocks.block_lines.Goals as goal

pub returns-in-None-clause-tells : goal.returns-in-None-clause-tells
returns-in-None-clause-tells g c = (
  record { seen = []; own = λ json. good [] },
  rw c.in-None.is refl,
  ap (λ (l : List ℕ). (l, false)) c.clear.ensures.items,
  refl,
)
