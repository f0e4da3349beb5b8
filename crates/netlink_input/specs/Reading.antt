-- What one step over a stream reads, where the bytes of the reader are known.
use Rattle.std.specs.Prelude.{◌≡◌, ◌≢◌, ◌≤◌, ◌<◌, ◌+◌, ℕ, List, [], ◌++◌, length, drop, IfSome, Option, Some, None, ⊤, if◌then◌else◌}
use Rattle.std.specs.Io.KnownBytes.{Consumes, IsAtEnd}
use Rattle.netlink_packet_core.specs.FrameWalk.{IsWholeFrame}
use Rattle.netlink_packet_core.specs.Header.{HoldsFrame}
use Rattle.netlink_input.specs.Packet.{HoldsPacket, IsPacketFault, IsWholePacket, captured_of, torn_of}
use Rattle.netlink_input.specs.Pcap.{is_pcap}
use Rattle.netlink_input.specs.Stream.{IsCause, longest}
use Rattle.netlink_input.specs.declared.packet.NextPacket.{NextPacket}
use Rattle.netlink_input.specs.declared.packet.NextPacket.TheVariants as packet
use Rattle.netlink_input.specs.declared.pcap.Order.{Order}
use Rattle.netlink_input.specs.declared.stream.Next.{Next}
use Rattle.netlink_input.specs.declared.stream.Next.TheVariants.{Frame, End, Stop}

-- the reader gave these bytes, which are a frame; or it had none; or its bytes start with no message
-- that can be read
abbrev pub GivesNext : Option (List ℕ) → Option (List ℕ) → List ℕ → Next → Type 0
GivesNext old new bytes Frame =
    Consumes old new bytes × IsWholeFrame bytes × (length bytes ≤ longest)
GivesNext old new bytes End = IsAtEnd old
GivesNext old new bytes (Stop cause) = IfSome old (λ rest. (rest ≢ []) × IsCause rest cause)

-- the reader gave bytes that hold no whole frame
abbrev pub Tries : Option (List ℕ) → Option (List ℕ) → Type 0
Tries old new = (front : List ℕ) × Consumes old new front × (HoldsFrame front → ⊥)

-- the reader gave bytes after the first ones until there were `size` of them, or had no more
abbrev pub ReadsUpTo : Option (List ℕ) → Option (List ℕ) → List ℕ → List ℕ → ℕ → Type 0
ReadsUpTo old new first bytes size =
    (more : List ℕ) × (bytes ≡ first ++ more) × Consumes old new more × (length bytes ≤ size)
    × (length bytes < size → IsAtEnd new)

-- the reader gave fewer
abbrev pub TriesUpTo : Option (List ℕ) → Option (List ℕ) → List ℕ → ℕ → Type 0
TriesUpTo old new first size =
    (more : List ℕ) × Consumes old new more × (length (first ++ more) < size)

-- how many bytes tell what an input is, by those that start it
abbrev pub start_size : List ℕ → ℕ
start_size first = if is_pcap first then 24 else 4

-- the reader gave the start of the input, which tells what it is
abbrev pub Starts : Option (List ℕ) → Option (List ℕ) → List ℕ → Type 0
Starts old new first =
    Consumes old new first × (length first ≤ start_size first)
    × (length first < start_size first → IsAtEnd new)

-- the reader gave fewer bytes than that
abbrev pub TriesStart : Option (List ℕ) → Option (List ℕ) → Type 0
TriesStart old new =
    (front : List ℕ) × Consumes old new front × (length front < start_size front)

-- the reader gave these bytes, which are a packet; or it had none; or its bytes start with no packet
-- that can be read
abbrev pub GivesPacket : Order → Option (List ℕ) → Option (List ℕ) → List ℕ → NextPacket → Type 0
GivesPacket order old new bytes packet.Packet =
    Consumes old new bytes × IsWholePacket order bytes × (captured_of order bytes ≤ longest)
GivesPacket order old new bytes packet.End = IsAtEnd old
GivesPacket order old new bytes (packet.Stop why) =
    IfSome old (λ rest. (rest ≢ []) × IsPacketFault order rest why)

-- of a packet that the bytes of the reader end in, these are all
abbrev pub KeepsTorn : Option (List ℕ) → List ℕ → NextPacket → Type 0
KeepsTorn old bytes (packet.Stop why) = IfSome old (λ rest. torn_of why bytes ≡ torn_of why rest)
KeepsTorn old bytes other = ⊤

-- the reader gave bytes that hold no whole packet
abbrev pub TriesPacket : Order → Option (List ℕ) → Option (List ℕ) → Type 0
TriesPacket order old new =
    (front : List ℕ) × Consumes old new front × (HoldsPacket order front → ⊥)

-- the reader lost n bytes: `most` of them, or all if it had fewer
abbrev pub Skips : Option (List ℕ) → Option (List ℕ) → ℕ → ℕ → Type 0
Skips None new most n = ⊤
Skips (Some bytes) None most n = ⊥
Skips (Some bytes) (Some rest) most n =
    (rest ≡ drop most bytes) × (n + length rest ≡ length bytes)

-- the reader lost at most `most` bytes
abbrev pub SkipsPart : Option (List ℕ) → Option (List ℕ) → ℕ → Type 0
SkipsPart old new most = (front : List ℕ) × Consumes old new front × (length front ≤ most)
