-- Bytes show one list of blocks and end in one way.
use Rattle.std.proofs.Common.{◌≡◌, ◌+◌, ◌-◌, ◌∙◌, ap, arith, sym, subst, ℕ, List, [], drop, length, Option, Some, None, Result, Ok, Err}
use Rattle.netlink_packet_core.specs.Walks.{StepLaws, walks_once}
use Rattle.netlink_lines.specs.Blocks.{HasBlock, IsBlockCause, IsBlockStop, ShowsBlocks, StartsBlock}
use Rattle.netlink_lines.specs.Packet.{Packet, Stamped, content_of}
use Rattle.netlink_input.specs.BlockLaws.{block_head, head_least}
use Rattle.netlink_input.specs.Blocks.{block_in, kept_of}
use Rattle.netlink_input.specs.declared.block.Block.{Block}
use Rattle.netlink_input.specs.declared.block.Section.{Section}
use Rattle.netlink_input.specs.declared.packet.Extent.{Extent}
use Rattle.netlink_input.specs.declared.pcap.PcapFault.{PcapFault}
use Rattle.netlink_input.specs.declared.stream.Cause.{Cause}
use Rattle.netlink_input.specs.declared.stream.Cause.TheVariants.{Pcap}
use Rattle.netlink_input.specs.declared.stream.Stop.{Stop}
use Rattle.netlink_lines.proofs.OncePackets.{content_once, stamped_once}
use Rattle.netlink_lines.proofs.Reaching.{ok_same, reaches_once}

shown_once : (at : ℕ) (packet : Option Extent) (kept : List ℕ) (a b : Packet) → HasBlock at packet kept a
    → HasBlock at packet kept b → a ≡ b
shown_once at None kept a b first second = first ∙ sym second
shown_once at (Some extent) kept a b first second =
    content_once at (extent.from + 16) kept (content_of extent kept) a b first second

block_once : (input : List ℕ) (end : ℕ) (bytes : List ℕ) (a b : Stamped) (rest other : List ℕ)
    → StartsBlock input end bytes a rest → StartsBlock input end bytes b other → (a ≡ b) × (rest ≡ other)
block_once input end bytes a b rest other first second =
    let section : first.section ≡ second.section = reaches_once input bytes first.section second.section first.reached second.reached in
    let block : first.block ≡ second.block =
    ok_same (block_in second.section bytes) first.block second.block
    (subst (λ (s : Section). block_in s bytes ≡ Ok first.block) section first.is) second.is in
    let moved : HasBlock (end - length bytes) first.block.packet (kept_of second.section first.block bytes) a.packet =
    subst (λ (s : Section). HasBlock (end - length bytes) first.block.packet (kept_of s first.block bytes) a.packet) section first.content in (
      stamped_once a b (first.time ∙ ap (λ (one : Block). one.time) block ∙ sym second.time)
          (shown_once (end - length bytes) second.block.packet (kept_of second.section second.block bytes) a.packet b.packet
          (subst (λ (one : Block). HasBlock (end - length bytes) one.packet (kept_of second.section one bytes) a.packet) block moved) second.content),
      first.after ∙ ap (λ (one : Block). drop one.size bytes) block ∙ sym second.after,
    )

no_block_starts : (input : List ℕ) (end : ℕ) (bytes : List ℕ) (shown : Stamped) (rest : List ℕ) → bytes ≡ []
    → StartsBlock input end bytes shown rest → ⊥
no_block_starts input end bytes shown rest none starts =
    let some = block_head starts.section bytes starts.block starts.is in
    omega (arith, ap length none, some, head_least starts.section.order bytes)

no_cause_of : (section : Section) (bytes : List ℕ) (block : Block) (cause : Cause) → block_in section bytes ≡ Ok block
    → IsBlockCause section bytes cause → ⊥
no_cause_of section bytes block (Pcap why) is that = absurd cc
no_cause_of section bytes block _ is that = absurd that

no_block_cause : (input : List ℕ) (end : ℕ) (bytes : List ℕ) (shown : Stamped) (rest : List ℕ) (stop : Stop)
    → StartsBlock input end bytes shown rest → IsBlockStop input end bytes stop → ⊥
no_block_cause input end bytes shown rest stop starts is =
    no_cause_of is.section bytes starts.block stop.cause
    (subst (λ (s : Section). block_in s bytes ≡ Ok starts.block)
    (reaches_once input bytes starts.section is.section starts.reached is.reached) starts.is) is.cause

err_same : (found : Result Block PcapFault) (one other : PcapFault) → found ≡ Err one → found ≡ Err other → one ≡ other
err_same found one other is that = cc

block_cause_once : (section : Section) (bytes : List ℕ) (r s : Cause) → IsBlockCause section bytes r → IsBlockCause section bytes s → r ≡ s
block_cause_once section bytes (Pcap e) (Pcap f) p q = ap Pcap (err_same (block_in section bytes) e f p q)
block_cause_once section bytes (Pcap e) _ p q = absurd q
block_cause_once section bytes _ s p q = absurd p

block_stop_once : (input : List ℕ) (end : ℕ) (bytes : List ℕ) (r s : Stop) → IsBlockStop input end bytes r
    → IsBlockStop input end bytes s → r ≡ s
block_stop_once input end bytes r s first second =
    let section : first.section ≡ second.section = reaches_once input bytes first.section second.section first.reached second.reached in
    let at : r.at ≡ s.at = omega (arith, first.place, second.place) in
    let cause : r.cause ≡ s.cause =
    block_cause_once second.section bytes r.cause s.cause
    (subst (λ (t : Section). IsBlockCause t bytes r.cause) section first.cause) second.cause in
    let moved : r ≡ record { at = s.at; cause = r.cause } = ap (λ (n : ℕ). record { at = n; cause = r.cause }) at in
    moved ∙ ap (λ (c : Cause). record { at = s.at; cause = c }) cause

block_laws : (input : List ℕ) (end : ℕ) → StepLaws (StartsBlock input end) (IsBlockStop input end)
block_laws input end = record {
  once = block_once input end;
  nothing = no_block_starts input end;
  fault = λ bytes shown rest stop. no_block_cause input end bytes shown rest stop;
  fault_once = block_stop_once input end;
}

pub blocks_once : (input : List ℕ) (end : ℕ) (bytes : List ℕ) (all more : List Stamped) (s t : Option Stop)
    → ShowsBlocks input end bytes all s → ShowsBlocks input end bytes more t → (all ≡ more) × (s ≡ t)
blocks_once input end = walks_once (block_laws input end)
