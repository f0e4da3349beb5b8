use Rattle.netlink_attributes.proofs.Older.{older_canonical, older_walk}
use Rattle.netlink_attributes.proofs.laws.older_block_kept.Goals as goal

pub returns-clause-canonical : goal.returns-clause-canonical
returns-clause-canonical c = older_canonical c.args.bytes.now

pub returns-clause-written : goal.returns-clause-written
returns-clause-written c = λ all fault older walk. older_walk c.args.bytes.now older all fault walk
