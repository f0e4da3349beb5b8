-- The packets of a pcap file. The header of a packet has 16 bytes: its time in 8, the number of bytes that were
-- captured, and the number of bytes that it had.
use Rattle.std.specs.Prelude.{◌≡◌, ◌<◌, ◌≤◌, ◌+◌, ℕ, List, [], length}
use Rattle.netlink_input.specs.Pcap.{number_in}
use Rattle.netlink_input.specs.Stream.{longest}
use Rattle.netlink_input.specs.declared.packet.Extent.{Extent}
use Rattle.netlink_input.specs.declared.pcap.Order.{Order}
use Rattle.netlink_input.specs.declared.pcap.PcapFault.{PcapFault}
use Rattle.netlink_input.specs.declared.pcap.PcapFault.TheVariants.{PacketShort, PacketLong, PacketCut}
use Rattle.netlink_input.specs.declared.stream.Cause.{Cause}
use Rattle.netlink_input.specs.declared.stream.Cause.TheVariants.{Pcap}
use Rattle.netlink_input.specs.declared.stream.Stop.{Stop}

-- the captured length in the header of a packet, and its original length
abbrev pub captured_of : Order → List ℕ → ℕ
captured_of order bytes = number_in order 8 4 bytes

abbrev pub original_of : Order → List ℕ → ℕ
original_of order bytes = number_in order 12 4 bytes

-- which bytes of the packet there are, by its header
abbrev pub extent_of : Order → List ℕ → Extent
extent_of order bytes =
    record { from = 16; captured = captured_of order bytes; original = original_of order bytes }

-- the bytes are those before the captured ones, at most 28, and these
abbrev pub IsExtent : Extent → List ℕ → Type 0
IsExtent extent bytes = (extent.from ≤ 28) × (length bytes ≡ extent.from + extent.captured)

-- the bytes are one packet with its header, and nothing else
abbrev pub IsWholePacket : Order → List ℕ → Type 0
IsWholePacket order packet =
    (16 ≤ length packet) × (length packet ≡ 16 + captured_of order packet)

-- the bytes hold a whole packet at their start
abbrev pub HoldsPacket : Order → List ℕ → Type 0
HoldsPacket order bytes =
    (16 ≤ length bytes) × (16 + captured_of order bytes ≤ length bytes)

-- the bytes start with no packet that can be read
abbrev pub IsPacketFault : Order → List ℕ → PcapFault → Type 0
IsPacketFault order bytes (PacketShort size) = (length bytes < 16) × (size ≡ length bytes)
IsPacketFault order bytes (PacketLong said) =
    (16 ≤ length bytes) × (said ≡ captured_of order bytes) × (longest < said)
IsPacketFault order bytes (PacketCut said size) =
    (16 ≤ length bytes) × (said ≡ captured_of order bytes) × (said ≤ longest)
    × (length bytes ≡ 16 + size) × (size < said)
IsPacketFault order bytes _ = ⊥

abbrev pub IsPacketCause : Order → List ℕ → Cause → Type 0
IsPacketCause order bytes (Pcap why) = IsPacketFault order bytes why
IsPacketCause order bytes _ = ⊥

-- the bytes start at this offset of the input and end at another, and the packets end there for this
-- cause
pub record IsPacketStop (order : Order) (end : ℕ) (bytes : List ℕ) (stop : Stop) : Type 0 where
  pub place : stop.at + length bytes ≡ end
  pub cause : IsPacketCause order bytes stop.cause

-- the bytes of a packet at whose header, at this offset of the input, the packets stop
abbrev pub torn_of : PcapFault → List ℕ → List ℕ
torn_of (PacketCut said size) bytes = bytes
torn_of _ bytes = []
