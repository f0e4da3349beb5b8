-- Bytes show one list of packets and end in one way.
use Rattle.std.proofs.Common.{◌≡◌, ◌+◌, ◌-◌, ◌++◌, ◌∙◌, ap, arith, refl, sym, subst, ℕ, List, [], ◌∷◌, drop, take, length, length-append, Option}
use Rattle.std.proofs.lemmas.List.{append_cancel_left, take_at}
use Rattle.std.specs.Prelude.{Bool, true, false}
use Rattle.netlink_packet_core.specs.Walks.{StepLaws, walks_once}
use Rattle.netlink_lines.specs.Messages.{Lines, Seen}
use Rattle.netlink_lines.specs.Packet.{HasContent, HasExtent, HasTorn, IsDatagram, IsTornBy, Packet, ShowsPackets, Stamped, StartsPacket, content_shown, content_of, from_stop, is_route, stop_shown, torn_by, with_line}
use Rattle.netlink_input.specs.Packet.{IsPacketCause, IsPacketFault, IsPacketStop, IsWholePacket, captured_of, extent_of}
use Rattle.netlink_lines.specs.declared.packet.Content.{Content}
use Rattle.netlink_lines.specs.declared.packet.Content.TheVariants as content
use Rattle.netlink_input.specs.declared.pcap.Order.{Order}
use Rattle.netlink_input.specs.declared.pcap.PcapFault.{PcapFault}
use Rattle.netlink_input.specs.declared.pcap.PcapFault.TheVariants.{PacketShort, PacketLong, PacketCut}
use Rattle.netlink_input.specs.declared.stream.Cause.{Cause}
use Rattle.netlink_input.specs.declared.stream.Cause.TheVariants.{Pcap}
use Rattle.netlink_input.specs.declared.stream.Stop.{Stop}
use Rattle.netlink_input.specs.declared.time.Time.{Time}
use Rattle.netlink_input.specs.Time.{pcap_time}
use Rattle.netlink_lines.proofs.Once.{messages_once}
use Rattle.netlink_input.specs.PacketLaws.{captured_in}

-- ---- a packet is shown in one way

shown_once : (a b : Packet) → a.seen ≡ b.seen → a.own ≡ b.own → a ≡ b
shown_once a b seen own =
    ap (λ (s : List Seen). record { seen = s; own = a.own }) seen ∙ ap (λ (l : Bool → Lines). record { seen = b.seen; own = l }) own

datagram_once : (cut : Bool) (at : ℕ) (bytes : List ℕ) (a b : Packet) → IsDatagram cut at bytes a → IsDatagram cut at bytes b → a ≡ b
datagram_once cut at bytes a b (stop, shows, is) (other, also, that) =
    let same = messages_once (at + length bytes) bytes a.seen b.seen stop other shows also in
    shown_once a b same.0 (is ∙ ap (stop_shown cut at bytes) same.1 ∙ sym that)

other_once : (a b : Packet) (line : Bool → Lines) → (a.seen ≡ []) × (a.own ≡ line) → (b.seen ≡ []) × (b.own ≡ line) → a ≡ b
other_once a b line (none, is) (nothing, that) = shown_once a b (none ∙ sym nothing) (is ∙ sym that)

pub content_once : (at before : ℕ) (packet : List ℕ) (what : Content) (a b : Packet) → HasContent at before packet what a
    → HasContent at before packet what b → a ≡ b
content_once at before packet content.Messages a b first second =
    datagram_once false (at + before) (drop before packet) a b first second
content_once at before packet (content.CutMessages n m) a b (part, is, whole) (other, that, also) =
    whole ∙ ap (with_line (content_shown at (length packet - before) (content.Cut n m))) (datagram_once true (at + before) (drop before packet) part other is that)
    ∙ sym also
content_once at before packet (content.Family n) a b first second = other_once a b _ first second
content_once at before packet (content.Cut n m) a b first second = other_once a b _ first second
content_once at before packet (content.Short n) a b first second = other_once a b _ first second
content_once at before packet (content.Device n) a b first second = other_once a b _ first second

-- ---- bytes start with one packet

captured_at : (order : Order) (bytes packet rest : List ℕ) → IsWholePacket order packet → bytes ≡ packet ++ rest
    → captured_of order bytes ≡ captured_of order packet
captured_at order bytes packet rest whole is = ap (captured_of order) is ∙ captured_in order packet rest whole.0

packet_same : (order : Order) (bytes first second rest other : List ℕ) → IsWholePacket order first
    → IsWholePacket order second → bytes ≡ first ++ rest → bytes ≡ second ++ other → (first ≡ second) × (rest ≡ other)
packet_same order bytes first second rest other whole also is that =
    let one = captured_at order bytes first rest whole is in
    let two = captured_at order bytes second other also that in
    let size : length second ≡ length first = omega (arith, one, two, whole.1, also.1) in
    let same : first ≡ second =
    sym (take_at first rest (length first) refl) ∙ ap (take (length first)) (sym is ∙ that)
    ∙ take_at second other (length first) size in
    (same, append_cancel_left first rest other (sym is ∙ that ∙ ap (λ (l : List ℕ). l ++ other) (sym same)))

pub stamped_once : (a b : Stamped) → a.time ≡ b.time → a.packet ≡ b.packet → a ≡ b
stamped_once a b time packet =
    ap (λ (t : Option Time). record { time = t; packet = a.packet }) time
    ∙ ap (λ (p : Packet). record { time = b.time; packet = p }) packet

packet_once : (order : Order) (nano : Bool) (end : ℕ) (bytes : List ℕ) (a b : Stamped) (rest other : List ℕ)
    → StartsPacket order nano end bytes a rest → StartsPacket order nano end bytes b other → (a ≡ b) × (rest ≡ other)
packet_once order nano end bytes a b rest other first second =
    let same = packet_same order bytes first.packet second.packet rest other first.size second.size first.whole second.whole in (
      stamped_once a b (first.time ∙ ap (pcap_time order nano) same.0 ∙ sym second.time)
          (content_once (end - length bytes) 32 second.packet (content_of (extent_of order second.packet) second.packet) a.packet b.packet
          (subst (λ (p : List ℕ). HasExtent (end - length bytes) (extent_of order p) p a.packet) same.0 first.content) second.content),
      same.1,
    )

no_packet_starts : (order : Order) (nano : Bool) (end : ℕ) (bytes : List ℕ) (shown : Stamped) (rest : List ℕ) → bytes ≡ []
    → StartsPacket order nano end bytes shown rest → ⊥
no_packet_starts order nano end bytes shown rest none starts =
    let long = ap length (sym none ∙ starts.whole) in
    let parts = length-append starts.packet rest in
    omega (arith, long, parts, starts.size.0)

-- ---- bytes have one cause to stop, or none

no_packet_fault : (order : Order) (nano : Bool) (end : ℕ) (bytes : List ℕ) (shown : Stamped) (rest : List ℕ) (why : PcapFault)
    → StartsPacket order nano end bytes shown rest → IsPacketFault order bytes why → ⊥
no_packet_fault order nano end bytes shown rest (PacketShort size) starts (short, is) =
    let long = ap length starts.whole ∙ length-append starts.packet rest in
    omega (arith, long, short, starts.size.0)
no_packet_fault order nano end bytes shown rest (PacketLong said) starts (long, is, high) =
    let same = captured_at order bytes starts.packet rest starts.size starts.whole in
    omega (arith, is, high, same, starts.most)
no_packet_fault order nano end bytes shown rest (PacketCut said size) starts (least, is, most, short, less) =
    let same = captured_at order bytes starts.packet rest starts.size starts.whole in
    let long = ap length starts.whole ∙ length-append starts.packet rest in
    omega (arith, is, short, less, same, long, starts.size.1)
no_packet_fault order nano end bytes shown rest _ starts is = absurd is

no_packet_cause : (order : Order) (nano : Bool) (end : ℕ) (bytes : List ℕ) (shown : Stamped) (rest : List ℕ) (cause : Cause)
    → StartsPacket order nano end bytes shown rest → IsPacketCause order bytes cause → ⊥
no_packet_cause order nano end bytes shown rest (Pcap why) starts is =
    no_packet_fault order nano end bytes shown rest why starts is
no_packet_cause order nano end bytes shown rest _ starts is = absurd is

packet_fault_once : (order : Order) (bytes : List ℕ) (e f : PcapFault) → IsPacketFault order bytes e
    → IsPacketFault order bytes f → e ≡ f
packet_fault_once order bytes (PacketShort m) (PacketShort n) p q = ap PacketShort (p.1 ∙ sym q.1)
packet_fault_once order bytes (PacketShort m) (PacketLong n) p q = absurd (omega (arith, p.0, q.0))
packet_fault_once order bytes (PacketShort m) (PacketCut n k) p q = absurd (omega (arith, p.0, q.0))
packet_fault_once order bytes (PacketLong m) (PacketShort n) p q = absurd (omega (arith, p.0, q.0))
packet_fault_once order bytes (PacketLong m) (PacketLong n) p q = ap PacketLong (p.1 ∙ sym q.1)
packet_fault_once order bytes (PacketLong m) (PacketCut n k) p q = absurd (omega (arith, p.1, p.2, q.1, q.2))
packet_fault_once order bytes (PacketCut m l) (PacketShort n) p q = absurd (omega (arith, p.0, q.0))
packet_fault_once order bytes (PacketCut m l) (PacketLong n) p q = absurd (omega (arith, p.1, p.2, q.1, q.2))
packet_fault_once order bytes (PacketCut m l) (PacketCut n k) p q =
    let size : l ≡ k = omega (arith, p.3, q.3) in
    ap (λ (x : ℕ). PacketCut x l) (p.1 ∙ sym q.1) ∙ ap (PacketCut n) size
packet_fault_once order bytes (PacketShort m) _ p q = absurd q
packet_fault_once order bytes (PacketLong m) _ p q = absurd q
packet_fault_once order bytes (PacketCut m l) _ p q = absurd q
packet_fault_once order bytes _ f p q = absurd p

packet_cause_once : (order : Order) (bytes : List ℕ) (r s : Cause) → IsPacketCause order bytes r
    → IsPacketCause order bytes s → r ≡ s
packet_cause_once order bytes (Pcap e) (Pcap f) p q = ap Pcap (packet_fault_once order bytes e f p q)
packet_cause_once order bytes (Pcap e) _ p q = absurd q
packet_cause_once order bytes _ s p q = absurd p

packet_stop_once : (order : Order) (end : ℕ) (bytes : List ℕ) (r s : Stop) → IsPacketStop order end bytes r
    → IsPacketStop order end bytes s → r ≡ s
packet_stop_once order end bytes r s first second =
    let at : r.at ≡ s.at = omega (arith, first.place, second.place) in
    let cause : r.cause ≡ s.cause = packet_cause_once order bytes r.cause s.cause first.cause second.cause in
    let moved : r ≡ record { at = s.at; cause = r.cause } = ap (λ (n : ℕ). record { at = n; cause = r.cause }) at in
    moved ∙ ap (λ (c : Cause). record { at = s.at; cause = c }) cause

-- ---- what is left is shown in one way

torn_once : (b : Bool) (at : ℕ) (bytes : List ℕ) (s t : Packet) → IsTornBy b at bytes s → IsTornBy b at bytes t → s ≡ t
torn_once true at bytes s t first second = datagram_once true (at + 32) (drop 32 bytes) s t first second
torn_once false at bytes s t first second = first ∙ sym second

pub parts_once : (order : Order) (nano : Bool) (end : ℕ) (bytes : List ℕ) (stop : Stop) (last more : List Stamped)
    → HasTorn order nano end bytes stop last → HasTorn order nano end bytes stop more → last ≡ more
parts_once order nano end bytes stop last more (s, is, timely, torn) (t, that, then, also) =
    let left : List ℕ = torn_by stop.cause (from_stop (end - length bytes) bytes stop) in
    is ∙ ap (λ (p : Stamped). p ∷ [])
    (stamped_once s t (timely ∙ sym then) (torn_once (is_route 16 left) stop.at left s.packet t.packet torn also)) ∙ sym that

-- ---- bytes show one list

packet_laws : (order : Order) (nano : Bool) (end : ℕ) → StepLaws (StartsPacket order nano end) (IsPacketStop order end)
packet_laws order nano end = record {
  once = packet_once order nano end;
  nothing = no_packet_starts order nano end;
  fault = λ bytes shown rest stop starts is. no_packet_cause order nano end bytes shown rest stop.cause starts is.cause;
  fault_once = packet_stop_once order end;
}

pub packets_once : (order : Order) (nano : Bool) (end : ℕ) (bytes : List ℕ) (all more : List Stamped) (s t : Option Stop)
    → ShowsPackets order nano end bytes all s → ShowsPackets order nano end bytes more t → (all ≡ more) × (s ≡ t)
packets_once order nano end = walks_once (packet_laws order nano end)
