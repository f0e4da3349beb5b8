use Rattle.std.proofs.Common.{arith}
use Rattle.netlink_c.proofs.PutLemmas.{grows_block}
use Rattle.netlink_c.proofs.put.put.Goals as goal

pub returns-clause-block : goal.returns-clause-block
returns-clause-block g c = λ _ start all order held.
    grows_block _ c.args.buffer.now c.emit_at.new.buffer c.args.cursor.now _ start all
    (omega (arith, c.if-at-buffer.false, c.if-buffer-at.false, c.nla_buffer_len-size.ensures.number)) c.emit_at.ensures.written
    (omega (arith, c.nla_buffer_len-size.ensures.number)) order held
