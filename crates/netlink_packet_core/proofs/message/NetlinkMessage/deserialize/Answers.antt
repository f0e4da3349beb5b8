use Rattle.std.proofs.Common.{inl, inr}
use Rattle.std.proofs.lemmas.Result.{err_from_is_err_and, IfErr-weaker}
use Rattle.netlink_packet_core.proofs.Refusals.{frame_refused, no_memory_wanted}
use Rattle.netlink_packet_core.proofs.message.NetlinkMessage.deserialize.Goals as goal

pub returns-in_err-header-clause-complete : goal.returns-in_err-header-clause-complete
returns-in_err-header-clause-complete g c m frame =
    let p = err_from_is_err_and c.from_residual.result c.from_residual.ensures.1 in
    rw (p.1, p.2) (frame_refused g.I.NetlinkDeserializable.decoding g.I.NetlinkDeserializable.wants_memory c.args.buffer.now m _ frame
    (inl c.in_err-header.ensures.refuses))

pub returns-clause-complete : goal.returns-clause-complete
returns-clause-complete g c m frame =
    IfErr-weaker c.read_frame.result _ _
    (λ e refusal. frame_refused g.I.NetlinkDeserializable.decoding g.I.NetlinkDeserializable.wants_memory c.args.buffer.now m e frame
    (inr refusal)) c.read_frame.ensures.err

pub returns-clause-no_memory : goal.returns-clause-no_memory
returns-clause-no_memory g c asks_none =
    IfErr-weaker c.read_frame.result _ _
    (λ e refusal. no_memory_wanted g.I.NetlinkDeserializable.decoding g.I.NetlinkDeserializable.wants_memory c.args.buffer.now e
    asks_none (inr refusal)) c.read_frame.ensures.err
