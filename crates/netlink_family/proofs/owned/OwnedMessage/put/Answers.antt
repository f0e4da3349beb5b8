use Rattle.std.proofs.Common.{arith}
use Rattle.netlink_family.proofs.CanonicalPayloads.{text_written}
use Rattle.netlink_family.proofs.owned.OwnedMessage.put.Goals as goal

pub invariant_of-self-clause-canonical : goal.invariant_of-self-clause-canonical
invariant_of-self-clause-canonical g c =
    text_written (g.F.Table.header_len c.args.self.now.message_type) (g.F.Table.rows c.args.self.now.message_type) c.args.self.now.bytes.items c.args.at c.args.value.now c.args.self.now.bytes.len
    c.put_bytes.new.bytes c.deref_mut.result.now c.args.self.now.canonical c.requires.inside (omega arith) c.deref_mut.ensures.value
    c.put_bytes.ensures.written
