use Rattle.std.proofs.Common.{◌≤◌, ℕ, List, [], ◌++◌, sym, subst, arith, length}
use Rattle.netlink_packet_core.specs.Canonical.{canonical_frame, finalized}
use Rattle.netlink_packet_core.specs.Frame.{Frame}
use Rattle.netlink_packet_core.proofs.Headers.{begins-holds}
use Rattle.netlink_packet_core.proofs.Written.{Laws, written_is_canonical, written_from, reads_before}
use Rattle.netlink_packet_core.proofs.Canonicals.{canonical_is_written, cut_holds_none, cut_short, cut_later}
use Rattle.netlink_packet_core.proofs.Once.{frame_same, same_text}
use Rattle.netlink_packet_core.proofs.laws.reads_back.Given
use Rattle.netlink_packet_core.proofs.laws.reads_back.Goals as goal

laws : (g : Given.Over) → Laws g.I.PartialEq.eq g.I.NetlinkSerializable.encoding g.I.NetlinkDeserializable.decoding
laws g = let met = g.met.I.NetlinkProtocol in
    record { own_pair = met.own_pair; equal_pairs = met.equal_pairs; value_is_lawful = met.value_is_lawful }

pub returns-clause-canonical : goal.returns-clause-canonical
returns-clause-canonical g c = written_is_canonical (laws g) c.args.m.now c.requires.first c.inner_in_widths.ensures

pub returns-clause-only : goal.returns-clause-only
returns-clause-only g c b canonical frame =
    sym (canonical_is_written (laws g) b (finalized g.I.NetlinkSerializable.encoding c.args.m.now) canonical frame)

pub returns-clause-before : goal.returns-clause-before
returns-clause-before g c = reads_before (laws g) c.args.m.now c.requires.first c.inner_in_widths.ensures c.args.c.now

pub returns-clause-cut : goal.returns-clause-cut
returns-clause-cut g c k proper x (payload, begins, body) =
    let canonical = written_is_canonical (laws g) c.args.m.now c.requires.first c.inner_in_widths.ensures in
    cut_holds_none (canonical_frame g.I.NetlinkSerializable.encoding c.args.m.now) k canonical.whole proper
    (begins-holds _ x.header payload begins)

pub returns-clause-cut_short : goal.returns-clause-cut_short
returns-clause-cut_short g c k few =
    let canonical = written_is_canonical (laws g) c.args.m.now c.requires.first c.inner_in_widths.ensures in
    let long : 16 ≤ length (canonical_frame g.I.NetlinkSerializable.encoding c.args.m.now) = canonical.header in
    cut_short (canonical_frame g.I.NetlinkSerializable.encoding c.args.m.now) k (omega arith) few

pub returns-clause-cut_later : goal.returns-clause-cut_later
returns-clause-cut_later g c k many proper =
    let canonical = written_is_canonical (laws g) c.args.m.now c.requires.first c.inner_in_widths.ensures in
    cut_later (canonical_frame g.I.NetlinkSerializable.encoding c.args.m.now) k canonical.whole proper many

pub returns-clause-equal : goal.returns-clause-equal
returns-clause-equal g c =
    let encoding = g.I.NetlinkSerializable.encoding in
    let decoding = g.I.NetlinkDeserializable.decoding in
    let m = c.args.m.now in
    let n = c.args.n.now in
    let equal = c.messages_equal.ensures.message (finalized encoding m) (finalized encoding n) c.inner_in_widths.ensures c.inner_in_widths-2.ensures in (
      λ e.
          let first = reads_before (laws g) m c.requires.first c.inner_in_widths.ensures [] in
          let second = reads_before (laws g) n c.requires.second c.inner_in_widths-2.ensures [] in
          let moved = subst (λ (b : List ℕ). Frame decoding (b ++ []) (finalized encoding n)) (sym e) second in
          equal.1 (frame_same decoding (canonical_frame encoding m ++ []) (finalized encoding m) (finalized encoding n) first moved),
      λ t.
          let both = equal.0 t in
          let same = same_text (laws g) m.payload n.payload both.1 in
          written_from encoding m n both.0 same.1,
    )
