-- The blocks of a pcapng file, one after another, and what one step over them reads.
use Rattle.std.specs.Prelude.{◌≡◌, ◌≢◌, ◌≤◌, ◌<◌, ◌+◌, ◌-◌, ◌==◌, ℕ, List, [], ◌∷◌, ◌++◌, drop, length, take, ⊤, Option, None, Some, IfSome, Result, Ok, Err, nat_lt, if◌then◌else◌}
use Rattle.std.specs.Io.KnownBytes.{Consumes, IsAtEnd}
use Rattle.netlink_input.specs.Block.{block_of, head_size, kept_by, kept_size, start}
use Rattle.netlink_input.specs.Packet.{IsExtent}
use Rattle.netlink_input.specs.Pcap.{number_in}
use Rattle.netlink_input.specs.declared.block.Block.{Block}
use Rattle.netlink_input.specs.declared.block.Section.{Section}
use Rattle.netlink_input.specs.declared.blocks.NextBlock.{NextBlock}
use Rattle.netlink_input.specs.declared.blocks.NextBlock.TheVariants as next
use Rattle.netlink_input.specs.declared.pcap.Order.{Order}
use Rattle.netlink_input.specs.declared.pcap.PcapFault.{PcapFault}
use Rattle.netlink_input.specs.declared.pcap.PcapFault.TheVariants.{BlockCut, BlockEnds, BlockShort}

-- what is wrong with the end of a block, which bytes start with: they are fewer than its length says, or it has
-- another length at its end
abbrev pub ended : Block → List ℕ → Option PcapFault
ended block bytes =
    if nat_lt (length bytes) block.size then Some (BlockCut block.size (length bytes))
    else if number_in block.section.order (block.size - 4) 4 bytes == block.size then None
    else Some (BlockEnds block.size (number_in block.section.order (block.size - 4) 4 bytes))

abbrev pub unless_ended : Option PcapFault → Block → Result Block PcapFault
unless_ended None block = Ok block
unless_ended (Some why) block = Err why

abbrev pub whole_block : List ℕ → Result Block PcapFault → Result Block PcapFault
whole_block bytes (Ok block) = unless_ended (ended block bytes) block
whole_block bytes (Err why) = Err why

-- the block that bytes start with in a section, or why they start with none that can be read
abbrev pub block_in : Section → List ℕ → Result Block PcapFault
block_in section bytes =
    if nat_lt (length bytes) (head_size section.order bytes)
    then Err (BlockShort (length bytes) (head_size section.order bytes))
    else whole_block bytes (block_of section (take (head_size section.order bytes) bytes))

-- what is kept of a block, which bytes start with: its first bytes, and the packet in it
abbrev pub kept_of : Section → Block → List ℕ → List ℕ
kept_of section block bytes = take (kept_by block.packet (head_size section.order bytes)) bytes

-- the bytes start with these blocks, one after another, which leave this, and these bytes follow them
abbrev pub PassesBlocks : Section → List ℕ → List Block → Section → List ℕ → Type 0
PassesBlocks section bytes [] after rest = (section ≡ after) × (bytes ≡ rest)
PassesBlocks section bytes (block ∷ more) after rest =
    (0 < block.size) × (block_in section bytes ≡ Ok block)
    × PassesBlocks block.section (drop block.size bytes) more after rest

-- blocks at the start of the input leave this before these bytes
abbrev pub Reaches : List ℕ → List ℕ → Section → Type 0
Reaches input rest section = (blocks : List Block) × PassesBlocks start input blocks section rest

-- the bytes hold a whole block at their start
abbrev pub HoldsBlock : Section → List ℕ → Type 0
HoldsBlock section bytes = (block : Block) × (block_in section bytes ≡ Ok block)

-- ---- what one step reads

-- the reader gave what a block starts with
abbrev pub StartsHead : Order → Option (List ℕ) → Option (List ℕ) → List ℕ → Type 0
StartsHead order old new head =
    Consumes old new head × (length head ≤ head_size order head)
    × (length head < head_size order head → IsAtEnd new)

-- the reader gave fewer bytes than that
abbrev pub TriesHead : Order → Option (List ℕ) → Option (List ℕ) → Type 0
TriesHead order old new =
    (front : List ℕ) × Consumes old new front × (length front < head_size order front)

-- the reader gave the rest of a block after its first bytes, or had no more, and these are kept of the block
abbrev pub EndsBlock : Block → Option (List ℕ) → Option (List ℕ) → List ℕ → List ℕ → Option PcapFault → Type 0
EndsBlock block old new head kept why =
    (more : List ℕ) × Consumes old new more × (length (head ++ more) ≤ block.size)
    × (length (head ++ more) < block.size → IsAtEnd new) × (why ≡ ended block (head ++ more))
    × (why ≡ None → kept ≡ take (kept_size block head) (head ++ more))

-- the reader gave these bytes, which are a block, and this is kept of them; or it had none; or its bytes start with no
-- block that can be read
abbrev pub GivesBlock : Section → Option (List ℕ) → Option (List ℕ) → List ℕ → NextBlock → Type 0
GivesBlock section old new kept (next.Block block) =
    (bytes : List ℕ) × Consumes old new bytes × (length bytes ≡ block.size) × (0 < block.size)
    × (block_in section bytes ≡ Ok block)
    × (kept_by block.packet (head_size section.order bytes) ≤ length bytes)
    × (kept ≡ kept_of section block bytes)
GivesBlock section old new kept next.End = IsAtEnd old
GivesBlock section old new kept (next.Stop why) =
    IfSome old (λ rest. (rest ≢ []) × (block_in section rest ≡ Err why))

-- what is kept of a block with a packet are the bytes of the packet
abbrev pub GivesExtent : List ℕ → NextBlock → Type 0
GivesExtent kept (next.Block block) = IfSome block.packet (λ packet. IsExtent packet kept)
GivesExtent kept other = ⊤

-- the reader gave bytes that hold no whole block
abbrev pub TriesBlock : Section → Option (List ℕ) → Option (List ℕ) → Type 0
TriesBlock section old new =
    (front : List ℕ) × Consumes old new front × (HoldsBlock section front → ⊥)
