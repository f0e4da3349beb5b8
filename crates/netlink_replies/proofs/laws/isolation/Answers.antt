use Rattle.std.proofs.Common.{refl}
use Rattle.netlink_replies.proofs.Ending.{isolated}
use Rattle.netlink_replies.proofs.laws.isolation.Goals as goal

pub returns : goal.returns
returns c = record {
  items = λ s frames. (isolated s frames s.request refl).0;
  state = λ s frames. (isolated s frames s.request refl).1;
}
