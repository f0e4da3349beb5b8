use Rattle.std.proofs.Common.{inr}
use Rattle.std.proofs.lemmas.Result.{IfErr-weaker}
use Rattle.netlink_packet_core.proofs.Refusals.{frame_refused, no_memory_wanted}
use Rattle.netlink_packet_core.proofs.message.NetlinkMessageParseableNetlinkBufferRefSliceU8.parse.Goals as goal

pub returns-clause-complete : goal.returns-clause-complete
returns-clause-complete g c m frame =
    IfErr-weaker c.read_frame.result _ _
    (λ e fault. frame_refused g.I.NetlinkDeserializable.decoding g.I.NetlinkDeserializable.wants_memory c.args.buf.now.buffer.now m e
    frame (inr fault)) c.read_frame.ensures.err

pub returns-clause-no_memory : goal.returns-clause-no_memory
returns-clause-no_memory g c asks_none =
    IfErr-weaker c.read_frame.result _ _
    (λ e fault. no_memory_wanted g.I.NetlinkDeserializable.decoding g.I.NetlinkDeserializable.wants_memory c.args.buf.now.buffer.now e
    asks_none (inr fault)) c.read_frame.ensures.err
