use Rattle.std.proofs.Common.{rules}
use Rattle.netlink_packet_core.proofs.message.NetlinkMessage.into_frame.Goals as goal

pub returns-clause-fits : goal.returns-clause-fits
returns-clause-fits g c = search rules

pub returns-clause-writes : goal.returns-clause-writes
returns-clause-writes g c = search rules

pub returns-then-size-gt-PAYLOAD_MAX-clause-fits : goal.returns-then-size-gt-PAYLOAD_MAX-clause-fits
returns-then-size-gt-PAYLOAD_MAX-clause-fits g c = search rules

pub returns-then-size-gt-PAYLOAD_MAX-clause-refuses : goal.returns-then-size-gt-PAYLOAD_MAX-clause-refuses
returns-then-size-gt-PAYLOAD_MAX-clause-refuses g c = search rules

pub returns-then-size-gt-PAYLOAD_MAX-clause-too_long : goal.returns-then-size-gt-PAYLOAD_MAX-clause-too_long
returns-then-size-gt-PAYLOAD_MAX-clause-too_long g c = search rules
