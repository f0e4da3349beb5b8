-- A run over the blocks of a pcapng file: what its loop keeps besides what others do, and how it ends.
use Rattle.std.proofs.Common.{◌≡◌, ◌≢◌, ◌<◌, ◌≤◌, ◌+◌, ◌-◌, ◌∙◌, refl, ℕ, List, [], ◌∷◌, ◌++◌, Option, Some, None, IfSome, Result, Ok, Err, drop, take, length, ap, sym, subst, arith, inl, inr, append-nil}
use Rattle.std.proofs.lemmas.List.{drop_at}
use Rattle.std.specs.Io.KnownBytes.{Appends, Consumes, IsAtEnd, prepend_known}
use Rattle.std.specs.Prelude.{Bool, ◌⊎◌, ⊤}
use Rattle.netlink_lines.specs.Blocks.{HasBlock, HoldsNext, IsBlockStop, StartsBlock, TellsBlock, blocks_of}
use Rattle.netlink_lines.specs.Format.{Format, StopsAs, ShowsAll}
use Rattle.netlink_lines.specs.Messages.{Check, Lines, Memory, stamped}
use Rattle.netlink_lines.specs.Packet.{Stamped, packet_leaves, packet_lines, stamped_leaves, stamped_lines}
use Rattle.netlink_lines.specs.Run.{RunsOver, end_of}
use Rattle.netlink_input.specs.Block.{head_size, kept_by, start}
use Rattle.netlink_input.specs.BlockLaws.{block_head, block_more, head_least, kept_more}
use Rattle.netlink_input.specs.Blocks.{GivesBlock, HoldsBlock, PassesBlocks, Reaches, TriesBlock, block_in, kept_of}
use Rattle.netlink_input.specs.ReadingLaws.{takes_first}
use Rattle.netlink_input.specs.declared.block.Block.{Block}
use Rattle.netlink_input.specs.declared.block.Section.{Section}
use Rattle.netlink_input.specs.declared.blocks.NextBlock.{NextBlock}
use Rattle.netlink_input.specs.declared.blocks.NextBlock.TheVariants as next
use Rattle.netlink_input.specs.declared.fault.Fault.{Fault}
use Rattle.netlink_input.specs.declared.fault.Fault.TheVariants as fault
use Rattle.netlink_input.specs.declared.pcap.PcapFault.{PcapFault}
use Rattle.netlink_input.specs.declared.stream.Cause.TheVariants.{Pcap}
use Rattle.netlink_input.specs.declared.stream.Stop.{Stop}
use Rattle.netlink_lines.proofs.Reaching.{passes_push, reaches_once}
use Rattle.netlink_lines.proofs.Running.{Ended, IsShown, Kept, at_the_end, no_one, no_write, runs, without_memory}
use Rattle.netlink_lines.proofs.Steps.{StopsAt, TriesOne, stops_here}

-- ---- the blocks of a reader whose bytes are known or not

abbrev pub StartsKnown : Option (List ℕ) → ℕ → List ℕ → Stamped → List ℕ → Type 0
StartsKnown None end bytes shown rest = Unit {0}
StartsKnown (Some input) end bytes shown rest = StartsBlock input end bytes shown rest

abbrev pub StopsKnown : Option (List ℕ) → ℕ → List ℕ → Stop → Type 0
StopsKnown None end bytes stop = Unit {0}
StopsKnown (Some input) end bytes stop = IsBlockStop input end bytes stop

abbrev pub HoldsKnown : Option (List ℕ) → List ℕ → List ℕ → Type 0
HoldsKnown None rest front = ⊥
HoldsKnown (Some input) rest front = HoldsNext input rest front

abbrev pub known_blocks : Check → Option (List ℕ) → Format Stamped
known_blocks check old = record {
  starts = StartsKnown old;
  stops = StopsKnown old;
  parts = λ end bytes stop last. last ≡ [];
  holds = HoldsKnown old;
  lines = stamped_lines check;
  leaves = stamped_leaves check;
}

-- the blocks so far leave this section
abbrev pub ReachesKnown : Option (List ℕ) → Option (List ℕ) → Section → Type 0
ReachesKnown None now section = Unit {0}
ReachesKnown (Some input) None section = ⊥
ReachesKnown (Some input) (Some rest) section = Reaches input rest section

pub reaches_start : (old : Option (List ℕ)) → ReachesKnown old old start
reaches_start None = tt
reaches_start (Some input) = ([], (refl, refl))

-- ---- one more block

pub reaches_next : (old now left : Option (List ℕ)) (section : Section) (bytes : List ℕ) (block : Block)
    → ReachesKnown old now section → Consumes now left bytes → length bytes ≡ block.size → 0 < block.size
    → block_in section bytes ≡ Ok block → ReachesKnown old left block.section
reaches_next None now left section bytes block reached took size some is = tt
reaches_next (Some input) None left section bytes block reached took size some is = absurd reached
reaches_next (Some input) (Some rest) None section bytes block reached took size some is = absurd took
reaches_next (Some input) (Some rest) (Some after) section bytes block (blocks, passed) took size some is =
    let here : block_in section rest ≡ Ok block = ap (block_in section) took ∙ block_more section bytes after block is in
    let left : drop block.size rest ≡ after = ap (drop block.size) took ∙ drop_at bytes after block.size size in (
      blocks ++ (block ∷ []),
      subst (PassesBlocks start input (blocks ++ (block ∷ [])) block.section) left
          (passes_push start input blocks section rest block passed some here),
    )

-- the next block, whatever it is
is_block : (check : Check) (old now : Option (List ℕ)) (section : Section) (at : ℕ) (bytes : List ℕ) (block : Block) (shown : Stamped)
    → ReachesKnown old now section → length bytes ≡ block.size → 0 < block.size → block_in section bytes ≡ Ok block
    → kept_by block.packet (head_size section.order bytes) ≤ length bytes → shown.time ≡ block.time → HasBlock at block.packet (kept_of section block bytes) shown.packet
    → (end : ℕ) (whole after : List ℕ) → now ≡ Some whole → whole ≡ bytes ++ after → at ≡ end - length whole
    → StartsKnown old end whole shown after
is_block check None now section at bytes block shown reached size some is fits timely has end whole after there same place = tt
is_block check (Some input) now section at bytes block shown reached size some is fits timely has end whole after there same place =
    let here : Reaches input whole section = subst (λ (o : Option (List ℕ)). ReachesKnown (Some input) o section) there reached in
    record {
      section = section;
      reached = here;
      block = block;
      some = some;
      is = ap (block_in section) same ∙ block_more section bytes after block is;
      after = sym (ap (drop block.size) same ∙ drop_at bytes after block.size size);
      time = timely;
      content =
          subst (λ (n : ℕ). HasBlock n block.packet (kept_of section block whole) shown.packet) place
          (subst (λ (l : List ℕ). HasBlock at block.packet l shown.packet)
          (sym (ap (kept_of section block) same ∙ kept_more section bytes after block is fits)) has);
    }

pub block_shown : (check : Check) (old now left : Option (List ℕ)) (section : Section) (at : ℕ) (kept view : List ℕ) (found : NextBlock)
    (block : Block) (state stamp : Memory) (lines : Lines) (after : Memory) → ReachesKnown old now section
    → GivesBlock section now left kept found → found ≡ next.Block block → view ≡ kept
    → stamp ≡ stamped state block.time → TellsBlock check block.packet at view stamp lines after
    → (bytes : List ℕ) × IsShown (known_blocks check old) now left at bytes 0 state lines after × (length bytes ≡ block.size)
    × ReachesKnown old left block.section
block_shown check old now left section at kept view found block state stamp lines after reached gives is same timed tells =
    let (bytes, took, size, some, read, fits, keeps) = subst (GivesBlock section now left kept) is gives in
    let (shown, has, said, leaves) = subst (λ (l : List ℕ). TellsBlock check block.packet at l stamp lines after) (same ∙ keeps) tells in (
      bytes,
      record {
        took = took;
        one = record { time = block.time; packet = shown };
        is = is_block check old now section at bytes block (record { time = block.time; packet = shown }) reached size some read fits refl has;
        tells = said ∙ ap (λ (m : Memory). packet_lines check m shown) timed;
        leaves = leaves ∙ ap (λ (m : Memory). packet_leaves check m shown) timed;
      },
      size,
      reaches_next old now left section bytes block reached took size some read,
    )

-- ---- how the run ends

-- the blocks stop there
block_stop : (check : Check) (old now : Option (List ℕ)) (section : Section) (at : ℕ) (why : PcapFault) → ReachesKnown old now section
    → IfSome now (λ rest. (rest ≢ []) × (block_in section rest ≡ Err why))
    → IfSome now (StopsAt (known_blocks check old) at (Pcap why))
block_stop check old None section at why reached is = tt
block_stop check None (Some rest) section at why reached (some, is) = (some, λ end place. tt)
block_stop check (Some input) (Some rest) section at why reached (some, is) =
    (some, λ end place. record { section = section; reached = reached; place = place; cause = is })

without_part : (check : Check) (old input : Option (List ℕ)) (base : ℕ) (done : List Stamped) (stop : Stop)
    → IfSome input (λ bytes. ShowsAll (known_blocks check old) (base + length bytes) bytes done (Some stop))
    → IfSome input (λ bytes. StopsAs (known_blocks check old) (base + length bytes) bytes done stop)
without_part check old None base done stop shows = tt
without_part check old (Some bytes) base done stop shows = (done, [], sym (append-nil done), shows, refl)

-- a run over the blocks that the reader had
abbrev pub RunsKnown : Check → Memory → Option (List ℕ) → Option (List ℕ) → Option (List ℕ) → Option (List ℕ) → Memory
    → Result ⊤ Fault → Type 0
RunsKnown check memory old left start end after result =
    IfSome old (λ bytes. RunsOver (blocks_of check bytes) memory (length bytes) bytes left start end after result)

-- the run over the blocks of the input, if it is known
ends_known : (check : Check) (memory : Memory) (old left start end : Option (List ℕ)) (after : Memory) (result : Result ⊤ Fault)
    → Ended (known_blocks check old) memory 0 old left start end after result
    → RunsKnown check memory old left start end after result
ends_known check memory None left start end after result runs = tt
ends_known check memory (Some bytes) left start end after result runs =
    subst (λ (n : ℕ). RunsOver (blocks_of check bytes) memory n bytes left start end after result) (omega arith) runs

-- the blocks stop there, and the run ends
pub at_block_stop : (check : Check) (memory : Memory) (old now left start end : Option (List ℕ)) (section : Section) (at : ℕ)
    (state : Memory) (malformed : Bool) (why : PcapFault)
    → Kept (known_blocks check old) memory 0 old now start end 0 at state malformed → ReachesKnown old now section
    → IfSome now (λ rest. (rest ≢ []) × (block_in section rest ≡ Err why))
    → RunsKnown check memory old left start end state (Err (fault.Stopped (record { at = at; cause = Pcap why })))
at_block_stop check memory old now left start end section at state malformed why k reached is =
    let f : Format Stamped = known_blocks check old in
    ends_known check memory old left start end state (Err (fault.Stopped (record { at = at; cause = Pcap why })))
    (runs f memory 0 old left start end k.done state (Err (fault.Stopped (record { at = at; cause = Pcap why })))
    (without_part check old old 0 k.done (record { at = at; cause = Pcap why })
    (stops_here f 0 old now k.done at (Pcap why) k.passed (block_stop check old now section at why reached is)))
    k.wrote (sym k.leaves))

-- the reader gave no whole block
tries_block : (check : Check) (old now left : Option (List ℕ)) (section : Section) → ReachesKnown old now section
    → TriesBlock section now left → TriesOne (known_blocks check old) now left
tries_block check None now left section reached (front, took, none) = (front, took, λ holds. holds)
tries_block check (Some input) None left section reached (front, took, none) = absurd reached
tries_block check (Some input) (Some rest) left section reached (front, took, none) = (
  front,
  took,
  λ holds.
      none (subst (λ (s : Section). HoldsBlock s front) (reaches_once input rest holds.0 section holds.1 reached) holds.2),
)

-- the first bytes of a block are too few
pub tries_few : (section : Section) (left : Option (List ℕ)) (bytes : List ℕ) → length bytes < 8
    → TriesBlock section (prepend_known bytes left) left
tries_few section left bytes few = (
  bytes,
  takes_first bytes left,
  λ holds. omega (arith, few, block_head section bytes holds.0 holds.1, head_least section.order bytes),
)

tries_next : (check : Check) (old now left : Option (List ℕ)) (section : Section) (why : Fault) → ReachesKnown old now section
    → (why ≡ fault.OutOfMemory) ⊎ ((why ≡ fault.Read) × TriesBlock section now left)
    → (why ≡ fault.OutOfMemory) ⊎ ((why ≡ fault.Read) × TriesOne (known_blocks check old) now left)
tries_next check old now left section why reached (inl none) = inl none
tries_next check old now left section why reached (inr (read, tries)) =
    inr (read, tries_block check old now left section reached tries)

-- at the end of the reader
pub at_block_end : (check : Check) (memory : Memory) (old now left start end : Option (List ℕ)) (at : ℕ) (state : Memory) (malformed : Bool)
    → Kept (known_blocks check old) memory 0 old now start end 0 at state malformed → IsAtEnd now
    → RunsKnown check memory old left start end state (end_of malformed)
at_block_end check memory old now left start end at state malformed k none =
    ends_known check memory old left start end state (end_of malformed)
    (at_the_end (known_blocks check old) memory 0 old now left start end at state malformed k none)

-- no block was read
pub no_block : (check : Check) (memory : Memory) (old now left start end : Option (List ℕ)) (section : Section) (at : ℕ) (state : Memory)
    (malformed : Bool) (why : Fault) → Kept (known_blocks check old) memory 0 old now start end 0 at state malformed
    → ReachesKnown old now section → (why ≡ fault.OutOfMemory) ⊎ ((why ≡ fault.Read) × TriesBlock section now left)
    → RunsKnown check memory old left start end state (Err why)
no_block check memory old now left start end section at state malformed why k reached tries =
    ends_known check memory old left start end state (Err why)
    (no_one (known_blocks check old) memory 0 old now left start end at state malformed why k (tries_next check old now left section why reached tries))

-- there are too many, or too many bytes
pub too_many : (check : Check) (memory : Memory) (old left start end : Option (List ℕ)) (section : Section) (bytes : List ℕ) (at : ℕ)
    (state : Memory) (malformed : Bool)
    → Kept (known_blocks check old) memory 0 old (prepend_known bytes left) start end 0 at state malformed
    → ReachesKnown old (prepend_known bytes left) section → length bytes < 8
    → RunsKnown check memory old left start end state (Err fault.Read)
too_many check memory old left start end section bytes at state malformed k reached few =
    no_block check memory old (prepend_known bytes left) left start end section at state malformed fault.Read k reached
    (inr (refl, tries_few section left bytes few))

-- an allocation failed
pub block_without_memory : (check : Check) (memory : Memory) (old now left start end : Option (List ℕ)) (at : ℕ) (state : Memory)
    (malformed : Bool) (after : Memory) → Kept (known_blocks check old) memory 0 old now start end 0 at state malformed
    → RunsKnown check memory old left start end after (Err fault.OutOfMemory)
block_without_memory check memory old now left start end at state malformed after k =
    ends_known check memory old left start end after (Err fault.OutOfMemory)
    (without_memory (known_blocks check old) memory 0 old now left start end at state malformed after k)

-- a part of the lines of one more was written
pub no_block_write : (check : Check) (memory : Memory) (old now left start before end : Option (List ℕ)) (at : ℕ) (state : Memory)
    (malformed : Bool) (bytes : List ℕ) (lines : Lines) (after : Memory)
    → Kept (known_blocks check old) memory 0 old now start before 0 at state malformed
    → IsShown (known_blocks check old) now left at bytes 0 state lines after
    → (n : ℕ) × (n ≤ length lines.0) × Appends before end (take n lines.0)
    → RunsKnown check memory old left start end after (Err fault.Write)
no_block_write check memory old now left start before end at state malformed bytes lines after k shown part =
    ends_known check memory old left start end after (Err fault.Write)
    (no_write (known_blocks check old) memory 0 old now left left start before end 0 at state malformed bytes lines after k shown part)
