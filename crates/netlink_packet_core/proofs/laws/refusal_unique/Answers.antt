use Rattle.netlink_packet_core.proofs.RefusedOnce.{refusal_once}
use Rattle.netlink_packet_core.proofs.Refusals.{frame_refused}
use Rattle.netlink_packet_core.proofs.laws.refusal_unique.Goals as goal

pub returns-clause-unique : goal.returns-clause-unique
returns-clause-unique g c = refusal_once g.I.NetlinkDeserializable.decoding g.I.NetlinkDeserializable.wants_memory

pub returns-clause-frame : goal.returns-clause-frame
returns-clause-frame g c = frame_refused g.I.NetlinkDeserializable.decoding g.I.NetlinkDeserializable.wants_memory
