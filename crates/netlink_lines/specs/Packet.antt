-- The packets of a pcap file, and how each packet is shown. The header of a packet has 16 bytes: its time in 8,
-- the number of bytes that were captured, and the number of bytes that it had. In the captured bytes, a
-- header of 16 comes first (LINKTYPE_NETLINK), whose numbers are big-endian: the type of the packet in 2
-- bytes, the device type (ARPHRD_NETLINK, 824) in 2, 10 that are not used, and the netlink family in 2.
-- A datagram follows.
use Rattle.std.specs.Prelude.{◌≡◌, ◌≤◌, ◌+◌, ◌-◌, ◌==◌, ◌||◌, ◌&&◌, ℕ, Bool, true, false, List, [], ◌∷◌, ◌++◌, drop, length, Option, None, Some, codes, decimal, nat_le, nat_lt, if◌then◌else◌}
use Rattle.std.specs.List.{list_all}
use Rattle.netlink_packet_core.specs.Header.{field}
use Rattle.netlink_packet_core.specs.Walks.{WalksAs}
use Rattle.netlink_lines.specs.Format.{Format, told_from}
use Rattle.netlink_lines.specs.Messages.{Check, Lines, Memory, Seen, bad, good, stamped}
use Rattle.netlink_input.specs.Packet.{HoldsPacket, IsPacketStop, IsWholePacket, captured_of, extent_of, torn_of}
use Rattle.netlink_input.specs.Pcap.{number_in}
use Rattle.netlink_lines.specs.Stream.{ShowsMessages, messages_of}
use Rattle.netlink_input.specs.Stream.{longest, stop_text, why_text}
use Rattle.netlink_lines.specs.Objects.{bad_object, family_object}
use Rattle.netlink_input.specs.Time.{pcap_time}
use Rattle.netlink_lines.specs.declared.packet.Content.{Content}
use Rattle.netlink_lines.specs.declared.packet.Content.TheVariants.{Messages, Family, CutMessages, Cut, Short, Device}
use Rattle.netlink_input.specs.declared.packet.Extent.{Extent}
use Rattle.netlink_input.specs.declared.pcap.Order.{Order}
use Rattle.netlink_input.specs.declared.pcap.Order.TheVariants.{Big}
use Rattle.netlink_input.specs.declared.stream.Cause.{Cause}
use Rattle.netlink_input.specs.declared.stream.Cause.TheVariants.{Pcap}
use Rattle.netlink_input.specs.declared.stream.Stop.{Stop}
use Rattle.netlink_input.specs.declared.time.Time.{Time}

-- the captured bytes of a packet, or what there is of them, which starts at this offset, have the header of a
-- datagram of route netlink
abbrev pub is_route : ℕ → List ℕ → Bool
is_route from packet =
    nat_le (from + 16) (length packet)
    && (number_in Big (from + 2) 2 packet == 824 && number_in Big (from + 14) 2 packet == 0)

-- what a packet is, by the bytes of it that there are; the first of these that holds
abbrev pub content_of : Extent → List ℕ → Content
content_of extent packet =
    if nat_lt extent.captured extent.original then
    (if is_route extent.from packet then CutMessages extent.captured extent.original
    else Cut extent.captured extent.original)
    else if nat_lt extent.captured 16 then Short extent.captured
    else if number_in Big (extent.from + 2) 2 packet == 824 then
    (if number_in Big (extent.from + 14) 2 packet == 0 then Messages
    else Family (number_in Big (extent.from + 14) 2 packet))
    else Device (number_in Big (extent.from + 2) 2 packet)

-- why a packet has no datagram
abbrev pub content_text : Content → List ℕ
content_text (Cut captured original) =
    codes "of a packet of " ++ (decimal original ++ (codes " bytes, " ++ (decimal captured
    ++ codes " were captured")))
content_text (Short captured) =
    codes "a packet of " ++ (decimal captured ++ codes " bytes is shorter than its header of 16")
content_text (Device n) =
    codes "the device type of a packet is " ++ (decimal n ++ codes " instead of 824 (NETLINK)")
content_text other = []

-- the line of a packet that is no whole datagram of route netlink, at this offset of the input, by the size of
-- its datagram
abbrev pub content_lines : ℕ → ℕ → Content → Lines
content_lines at size (Family n) =
    good (codes "netlink family " ++ (decimal n ++ (codes ", " ++ (decimal size ++ codes " bytes\n"))))
content_lines at size other = bad at (content_text other)

-- the same as an object
abbrev pub content_object : ℕ → ℕ → Content → Lines
content_object at size (Family n) = family_object n size
content_object at size other = bad_object at (content_text other)

-- what is shown of it: its object, if objects are asked for, or its line
abbrev pub content_shown : ℕ → ℕ → Content → Bool → Lines
content_shown at size what json = if json then content_object at size what else content_lines at size what

-- the bytes of a datagram, which starts at this offset of the input, from a stop on
abbrev pub from_stop : ℕ → List ℕ → Stop → List ℕ
from_stop at bytes stop = drop (stop.at - at) bytes

abbrev pub are_zeros : List ℕ → Bool
are_zeros bytes = list_all (λ b. b == 0) bytes

-- the bytes are a part of a message: fewer than its header, or than its length field says
abbrev pub is_partial : List ℕ → Bool
is_partial bytes = nat_lt (length bytes) 16 || nat_lt (length bytes) (field 0 4 bytes)

-- bytes that no message starts with have no line: zeros, which are padding, and a part of a message in a datagram
-- that was cut
abbrev pub is_silent : Bool → List ℕ → Bool
is_silent cut bytes = are_zeros bytes || (cut && is_partial bytes)

-- what ends a datagram, which starts at this offset of the input, before its end, as an object
abbrev pub stop_object : Stop → List ℕ
stop_object stop = (bad_object stop.at (why_text stop.cause)).0

abbrev pub stop_line : Stop → Bool → List ℕ
stop_line stop json = if json then stop_object stop else stop_text stop ++ codes "\n"

-- what is shown of it
abbrev pub stop_shown : Bool → ℕ → List ℕ → Option Stop → Bool → Lines
stop_shown cut at bytes None json = good []
stop_shown cut at bytes (Some stop) json =
    if is_silent cut (from_stop at bytes stop) then good [] else (stop_line stop json, true)

-- ---- a packet after others

-- a packet as it is in the input: the messages of its datagram, and the line of the packet itself, if it
-- has one, or its object
pub record Packet : Type 0 where
  pub seen : List Seen
  pub own : Bool → Lines

-- a packet with its time, if that is known
pub record Stamped : Type 0 where
  pub time : Option Time
  pub packet : Packet

-- a datagram that starts at this offset of the input, of which all bytes are there or which was cut, is shown so
abbrev pub IsDatagram : Bool → ℕ → List ℕ → Packet → Type 0
IsDatagram cut at bytes shown =
    (stop : Option Stop) × ShowsMessages (at + length bytes) bytes shown.seen stop
    × (shown.own ≡ stop_shown cut at bytes stop)

-- what is shown so, and then a line
abbrev pub with_line : (Bool → Lines) → Packet → Packet
with_line line shown = record {
  seen = shown.seen;
  own = λ json. ((shown.own json).0 ++ (line json).0, (shown.own json).1 || (line json).1);
}

-- a datagram that was cut is shown so, before the line about the cut
abbrev pub IsCut : ℕ → List ℕ → (Bool → Lines) → Packet → Type 0
IsCut at bytes line shown = (part : Packet) × IsDatagram true at bytes part × (shown ≡ with_line line part)

-- a packet, which starts at this offset of the input with this number of bytes before its datagram, is shown so, by
-- what it is
abbrev pub HasContent : ℕ → ℕ → List ℕ → Content → Packet → Type 0
HasContent at before packet Messages shown = IsDatagram false (at + before) (drop before packet) shown
HasContent at before packet (CutMessages captured original) shown =
    IsCut (at + before) (drop before packet) (content_shown at (length packet - before) (Cut captured original)) shown
HasContent at before packet other shown =
    (shown.seen ≡ []) × (shown.own ≡ content_shown at (length packet - before) other)

-- a packet of which there are these bytes
abbrev pub HasExtent : ℕ → Extent → List ℕ → Packet → Type 0
HasExtent at extent packet shown = HasContent at (extent.from + 16) packet (content_of extent packet) shown

-- its lines, by what the packets before it leave
abbrev pub packet_lines : Check → Memory → Packet → Lines
packet_lines check memory shown = (
  (told_from (messages_of check) memory shown.seen).text ++ (shown.own memory.options.json).0,
  (told_from (messages_of check) memory shown.seen).malformed || (shown.own memory.options.json).1,
)

-- what it leaves
abbrev pub packet_leaves : Check → Memory → Packet → Memory
packet_leaves check memory shown = (told_from (messages_of check) memory shown.seen).memory

-- what is shown so has these lines after others, and leaves this
abbrev pub TellsShown : Check → (Packet → Type 0) → Memory → Lines → Memory → Type 0
TellsShown check Is memory lines after =
    (shown : Packet) × Is shown × (lines ≡ packet_lines check memory shown)
    × (after ≡ packet_leaves check memory shown)

-- a datagram at this offset of the input
abbrev pub TellsDatagram : Check → Bool → ℕ → List ℕ → Memory → Lines → Memory → Type 0
TellsDatagram check cut at bytes = TellsShown check (IsDatagram cut at bytes)

-- a packet, which starts at this offset of the input
abbrev pub TellsExtent : Check → Extent → ℕ → List ℕ → Memory → Lines → Memory → Type 0
TellsExtent check extent at packet = TellsShown check (HasExtent at extent packet)

-- a packet of a pcap file, whose header is at this offset of the input
abbrev pub TellsPacket : Check → Order → ℕ → List ℕ → Memory → Lines → Memory → Type 0
TellsPacket check order at packet = TellsExtent check (extent_of order packet) at packet

-- ---- the packets of a file

-- the bytes, which end at this offset of the input, start with a packet that is shown so
pub record StartsPacket (order : Order) (nano : Bool) (end : ℕ) (bytes : List ℕ) (shown : Stamped) (rest : List ℕ) : Type 0 where
  pub packet : List ℕ
  pub size : IsWholePacket order packet
  pub whole : bytes ≡ packet ++ rest
  pub most : captured_of order packet ≤ longest
  pub time : shown.time ≡ pcap_time order nano packet
  pub content : HasExtent (end - length bytes) (extent_of order packet) packet shown.packet

-- ---- a packet that the end of the file cuts

abbrev pub torn_by : Cause → List ℕ → List ℕ
torn_by (Pcap why) bytes = torn_of why bytes
torn_by _ bytes = []

-- the bytes of such a packet, whose header is at this offset of the input, are shown so: the run's error tells of
-- the cut
abbrev pub IsTornBy : Bool → ℕ → List ℕ → Packet → Type 0
IsTornBy true at bytes shown = IsDatagram true (at + 32) (drop 32 bytes) shown
IsTornBy false at bytes shown = shown ≡ record { seen = []; own = λ json. good [] }

abbrev pub IsTorn : ℕ → List ℕ → Packet → Type 0
IsTorn at bytes = IsTornBy (is_route 16 bytes) at bytes

abbrev pub TellsTorn : Check → ℕ → List ℕ → Memory → Lines → Memory → Type 0
TellsTorn check at bytes = TellsShown check (IsTorn at bytes)

-- what is shown of the bytes at a stop, by all bytes, which end at this offset of the input
abbrev pub HasTorn : Order → Bool → ℕ → List ℕ → Stop → List Stamped → Type 0
HasTorn order nano end bytes stop last =
    (shown : Stamped) × (last ≡ shown ∷ [])
    × (shown.time ≡ pcap_time order nano (torn_by stop.cause (from_stop (end - length bytes) bytes stop)))
    × IsTorn stop.at (torn_by stop.cause (from_stop (end - length bytes) bytes stop)) shown.packet

-- its lines and what it leaves, after its time
abbrev pub stamped_lines : Check → Memory → Stamped → Lines
stamped_lines check memory shown = packet_lines check (stamped memory shown.time) shown.packet

abbrev pub stamped_leaves : Check → Memory → Stamped → Memory
stamped_leaves check memory shown = packet_leaves check (stamped memory shown.time) shown.packet

-- packets, by the errors of payloads
abbrev pub packets_of : Check → Order → Bool → Format Stamped
packets_of check order nano = record {
  starts = StartsPacket order nano;
  stops = IsPacketStop order;
  parts = HasTorn order nano;
  holds = λ rest. HoldsPacket order;
  lines = stamped_lines check;
  leaves = stamped_leaves check;
}

-- the bytes, which end at this offset of the input, are these packets, up to their end or a stop
abbrev pub ShowsPackets : Order → Bool → ℕ → List ℕ → List Stamped → Option Stop → Type 0
ShowsPackets order nano end = WalksAs (StartsPacket order nano end) (IsPacketStop order end)
