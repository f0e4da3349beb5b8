-- The blocks of a pcapng file, and how each is shown. Where one starts, the blocks before it tell the byte order and the
-- interfaces, so what a block is depends on the whole input.
use Rattle.std.specs.Prelude.{◌≡◌, ◌<◌, ◌+◌, ◌-◌, ℕ, List, [], drop, length, Option, None, Some, Ok, Err}
use Rattle.netlink_packet_core.specs.Walks.{WalksAs}
use Rattle.netlink_lines.specs.Format.{Format}
use Rattle.netlink_lines.specs.Messages.{Check, Lines, Memory, good}
use Rattle.netlink_lines.specs.Packet.{HasExtent, Packet, Stamped, TellsShown, stamped_leaves, stamped_lines}
use Rattle.netlink_input.specs.Blocks.{HoldsBlock, Reaches, block_in, kept_of}
use Rattle.netlink_input.specs.declared.block.Block.{Block}
use Rattle.netlink_input.specs.declared.block.Section.{Section}
use Rattle.netlink_input.specs.declared.packet.Extent.{Extent}
use Rattle.netlink_input.specs.declared.stream.Cause.{Cause}
use Rattle.netlink_input.specs.declared.stream.Cause.TheVariants.{Pcap}
use Rattle.netlink_input.specs.declared.stream.Stop.{Stop}

-- a block, which starts at this offset of the input, is shown so, by the packet in it and what is kept of it
abbrev pub HasBlock : ℕ → Option Extent → List ℕ → Packet → Type 0
HasBlock at None kept shown = shown ≡ record { seen = []; own = λ json. good [] }
HasBlock at (Some extent) kept shown = HasExtent at extent kept shown

abbrev pub TellsBlock : Check → Option Extent → ℕ → List ℕ → Memory → Lines → Memory → Type 0
TellsBlock check packet at kept = TellsShown check (HasBlock at packet kept)

-- the last bytes of the input, which end at this offset, start with a block that is shown so
pub record StartsBlock (input : List ℕ) (end : ℕ) (bytes : List ℕ) (shown : Stamped) (rest : List ℕ) : Type 0 where
  pub section : Section
  pub reached : Reaches input bytes section
  pub block : Block
  pub some : 0 < block.size
  pub is : block_in section bytes ≡ Ok block
  pub after : rest ≡ drop block.size bytes
  pub time : shown.time ≡ block.time
  pub content : HasBlock (end - length bytes) block.packet (kept_of section block bytes) shown.packet

abbrev pub IsBlockCause : Section → List ℕ → Cause → Type 0
IsBlockCause section bytes (Pcap why) = block_in section bytes ≡ Err why
IsBlockCause section bytes _ = ⊥

-- the last bytes of the input start at this offset and end at another, and the blocks end there for this cause
pub record IsBlockStop (input : List ℕ) (end : ℕ) (bytes : List ℕ) (stop : Stop) : Type 0 where
  pub section : Section
  pub reached : Reaches input bytes section
  pub place : stop.at + length bytes ≡ end
  pub cause : IsBlockCause section bytes stop.cause

-- of the last bytes of the input, these first ones hold a whole block
abbrev pub HoldsNext : List ℕ → List ℕ → List ℕ → Type 0
HoldsNext input rest front = (section : Section) × Reaches input rest section × HoldsBlock section front

-- the blocks of an input, by the errors of payloads
abbrev pub blocks_of : Check → List ℕ → Format Stamped
blocks_of check input = record {
  starts = StartsBlock input;
  stops = IsBlockStop input;
  parts = λ end bytes stop last. last ≡ [];
  holds = HoldsNext input;
  lines = stamped_lines check;
  leaves = stamped_leaves check;
}

-- the last bytes of the input, which end at this offset, are these blocks, up to their end or a stop
abbrev pub ShowsBlocks : List ℕ → ℕ → List ℕ → List Stamped → Option Stop → Type 0
ShowsBlocks input end = WalksAs (StartsBlock input end) (IsBlockStop input end)
