use Rattle.std.proofs.Common.{arith}
use Rattle.netlink_family.proofs.CanonicalPayloads.{put_written}
use Rattle.netlink_family.proofs.owned.OwnedMessage.set_u16.Goals as goal

pub invariant_of-self-clause-canonical : goal.invariant_of-self-clause-canonical
invariant_of-self-clause-canonical g c =
    put_written (g.F.Table.header_len c.args.self.now.message_type) (g.F.Table.rows c.args.self.now.message_type) c.args.self.now.bytes.items c.args.field.1 c.args.value 2 c.args.self.now.bytes.len
    c.put_u16.new.bytes c.deref_mut.result.now c.args.self.now.canonical c.requires.inside (omega arith) c.deref_mut.ensures.value
    c.put_u16.ensures.written
