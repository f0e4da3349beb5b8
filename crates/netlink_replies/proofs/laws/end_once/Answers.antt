use Rattle.netlink_replies.proofs.Ending.{end_items, ended_items, ends_at, open_items}
use Rattle.netlink_replies.proofs.laws.end_once.Goals as goal

pub returns : goal.returns
returns c = record {
  end = ends_at;
  no_end = λ s frames open' none. (open_items s frames open' none).0;
  at = λ s before frame later open' none is. (end_items s before frame later open' none is).0;
  later = ended_items;
}
