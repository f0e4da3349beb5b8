use Rattle.netlink_bytes.proofs.Lines.{lines_chain}
use Rattle.netlink_bytes.proofs.laws.contexts_chain.Goals as goal

pub returns : goal.returns
returns c = record { chain = lines_chain }
