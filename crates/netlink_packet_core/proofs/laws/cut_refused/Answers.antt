use Rattle.std.proofs.Common.{◌≤◌, arith, length}
use Rattle.netlink_packet_core.proofs.Headers.{begins-holds}
use Rattle.netlink_packet_core.proofs.Canonicals.{canonical_holds, cut_holds_none, cut_short, cut_later}
use Rattle.netlink_packet_core.proofs.laws.cut_refused.Goals as goal

pub returns-clause-cut : goal.returns-clause-cut
returns-clause-cut g c canonical proper m (payload, begins, body) =
    cut_holds_none c.args.bytes.now c.args.cut canonical.whole proper (begins-holds _ m.header payload begins)

pub returns-clause-cut_short : goal.returns-clause-cut_short
returns-clause-cut_short g c canonical few =
    let long : 16 ≤ length c.args.bytes.now = canonical.header in cut_short c.args.bytes.now c.args.cut (omega arith) few

pub returns-clause-cut_later : goal.returns-clause-cut_later
returns-clause-cut_later g c canonical many proper = cut_later c.args.bytes.now c.args.cut canonical.whole proper many

pub returns-clause-beginning : goal.returns-clause-beginning
returns-clause-beginning g c canonical proper other =
    cut_holds_none c.args.bytes.now c.args.cut canonical.whole proper (canonical_holds g.I.NetlinkDeserializable.decoding _ other)
