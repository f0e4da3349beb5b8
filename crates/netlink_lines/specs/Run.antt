-- What a run did.
use Rattle.std.specs.Prelude.{◌≡◌, ◌≤◌, ◌⊎◌, ℕ, Bool, true, false, ⊤, ◌-◌, List, [], ◌++◌, drop, length, take, Option, None, Some, Result, Ok, Err}
use Rattle.std.specs.Io.KnownBytes.{Appends}
use Rattle.netlink_packet_core.specs.Walks.{Passed}
use Rattle.netlink_lines.specs.Blocks.{blocks_of}
use Rattle.netlink_lines.specs.Format.{Format, ShowsAll, StopsAs, told_from}
use Rattle.netlink_lines.specs.Messages.{Check, Lines, Memory, no_memory}
use Rattle.netlink_lines.specs.Options.{plain}
use Rattle.netlink_lines.specs.Packet.{TellsTorn, packets_of}
use Rattle.netlink_input.specs.Pcap.{is_nano, layout_of}
use Rattle.netlink_lines.specs.Stream.{messages_of}
use Rattle.netlink_input.specs.declared.pcap.Layout.{Layout}
use Rattle.netlink_input.specs.declared.pcap.Layout.TheVariants.{Blocks, Messages, Packets, Unread}
use Rattle.netlink_input.specs.declared.fault.Fault.{Fault}
use Rattle.netlink_input.specs.declared.fault.Fault.TheVariants as fault
use Rattle.netlink_lines.specs.declared.options.Options.{Options}
use Rattle.netlink_lines.specs.declared.runs.Outcome.{Outcome}
use Rattle.netlink_input.specs.declared.stream.Stop.{Stop}

-- the bytes, which end at this offset of the input, start with these messages or packets, or are these up to a
-- stop
abbrev pub ShowsFirst : {A : Type 0} → Format A → ℕ → List ℕ → List A → Type 0
ShowsFirst f end bytes all =
    ((rest : List ℕ) × Passed (f.starts end) bytes all rest) ⊎ ((stop : Stop) × StopsAs f end bytes all stop)

-- of what follows them, the reader did not give a whole one before it failed
abbrev pub NoneLost : {A : Type 0} → Format A → ℕ → List ℕ → List A → Option (List ℕ) → Type 0
NoneLost f end bytes all None = ⊥
NoneLost f end bytes all (Some left) =
    (rest : List ℕ) × Passed (f.starts end) bytes all rest
    × (f.holds rest (take (length rest - length left) rest) → ⊥)

-- the messages or packets that a run over the bytes showed, by how it ended; what is left in the reader;
-- and whether one was malformed
abbrev pub Reads : {A R : Type 0} → Format A → ℕ → List ℕ → Option (List ℕ) → List A → Bool
    → Result R Fault → Type 0
Reads f end bytes left all malformed (Ok done) =
    ShowsAll f end bytes all None × (malformed ≡ false)
Reads f end bytes left all malformed (Err fault.Malformed) =
    ShowsAll f end bytes all None × (malformed ≡ true)
Reads f end bytes left all malformed (Err (fault.Stopped stop)) = StopsAs f end bytes all stop
Reads f end bytes left all malformed (Err fault.Read) = NoneLost f end bytes all left
Reads f end bytes left all malformed (Err other) = ShowsFirst f end bytes all

-- the writer was given the lines, or a part of them if it failed
abbrev pub Writes : {R : Type 0} → Option (List ℕ) → Option (List ℕ) → List ℕ → Result R Fault
    → Type 0
Writes old new lines (Err fault.Write) =
    (part more : List ℕ) × (lines ≡ part ++ more) × Appends old new part
Writes old new lines other = Appends old new lines

-- the writer was given the lines of what was read of a packet, which leaves this memory, or a part of them if it
-- failed
abbrev pub WritesTorn : {R : Type 0} → Check → ℕ → List ℕ → Memory → Memory → Option (List ℕ)
    → Option (List ℕ) → Result R Fault → Type 0
WritesTorn check at bytes memory after old new (Ok done) =
    (lines : Lines) × TellsTorn check at bytes memory lines after × Appends old new lines.0
WritesTorn check at bytes memory after old new (Err fault.Write) =
    (lines : Lines) × TellsTorn check at bytes memory lines after
    × (n : ℕ) × (n ≤ length lines.0) × Appends old new (take n lines.0)
WritesTorn check at bytes memory after old new (Err fault.OutOfMemory) = new ≡ old
WritesTorn check at bytes memory after old new (Err other) = ⊥

-- the memory that is left, unless an allocation failed
abbrev pub Leaves : {R : Type 0} → Memory → Memory → Result R Fault → Type 0
Leaves memory after (Err fault.OutOfMemory) = ⊤
Leaves memory after other = after ≡ memory

-- what a run did over bytes that end at this offset of the input, after messages that left this memory
abbrev pub RunsOver : {A R : Type 0} → Format A → Memory → ℕ → List ℕ → Option (List ℕ)
    → Option (List ℕ) → Option (List ℕ) → Memory → Result R Fault → Type 0
RunsOver {A} f memory end bytes left old new after result =
    (all : List A) × Reads f end bytes left all (told_from f memory all).malformed result
    × Writes old new (told_from f memory all).text result
    × Leaves (told_from f memory all).memory after result

-- the same, with how the messages or packets ended, unless the run failed before
abbrev pub EndsOver : {A : Type 0} → Format A → Memory → ℕ → List ℕ → Option (List ℕ)
    → Option (List ℕ) → Option (List ℕ) → Memory → Result Outcome Fault → Type 0
EndsOver {A} f memory end bytes left old new after (Ok outcome) =
    (all : List A) × ShowsAll f end bytes all outcome.stop
    × ((told_from f memory all).malformed ≡ outcome.is_malformed)
    × Appends old new (told_from f memory all).text × (after ≡ (told_from f memory all).memory)
EndsOver f memory end bytes left old new after (Err why) =
    RunsOver {R = ⊤} f memory end bytes left old new after (Err why)

-- the same over a whole input, or all of it from some bytes on
abbrev pub RunsAll : {A R : Type 0} → Format A → Options → ℕ → List ℕ → Option (List ℕ) → Option (List ℕ)
    → Option (List ℕ) → Result R Fault → Type 0
RunsAll f options end bytes left old new result =
    (after : Memory) × RunsOver f (no_memory options) end bytes left old new after result

-- how a run ends whose input is not read for this cause, unless it fails before it knows
abbrev pub Rejects : {R : Type 0} → Stop → Result R Fault → Type 0
Rejects why (Err (fault.Stopped stop)) = stop ≡ why
Rejects why (Err fault.Read) = ⊤
Rejects why (Err fault.OutOfMemory) = ⊤
Rejects why other = ⊥

-- what a run over the input did, by what the input is
abbrev pub RunsIn : {R : Type 0} → Check → Options → Layout → List ℕ → Option (List ℕ) → Option (List ℕ)
    → Option (List ℕ) → Result R Fault → Type 0
RunsIn check options Messages input left old new result =
    RunsAll (messages_of check) options (length input) input left old new result
RunsIn check options (Packets order) input left old new result =
    RunsAll (packets_of check order (is_nano order input)) options (length input) (drop 24 input) left old new result
RunsIn check options Blocks input left old new result =
    RunsAll (blocks_of check input) options (length input) input left old new result
RunsIn check options (Unread why) input left old new result = Rejects why result × Appends old new []

-- what a run over the input did, by what it prints besides the lines
abbrev pub RunsWith : {R : Type 0} → Check → Options → List ℕ → Option (List ℕ) → Option (List ℕ)
    → Option (List ℕ) → Result R Fault → Type 0
RunsWith check options input = RunsIn check options (layout_of input) input

-- what a run over the input did that prints the lines alone
abbrev pub RunsAs : {R : Type 0} → Check → List ℕ → Option (List ℕ) → Option (List ℕ)
    → Option (List ℕ) → Result R Fault → Type 0
RunsAs check = RunsWith check plain

-- how a run ends at the end of its input, by whether a message was malformed
abbrev pub end_of : Bool → Result ⊤ Fault
end_of true = Err fault.Malformed
end_of false = Ok tt

-- how it ends, by where its messages stopped
abbrev pub end_by : Bool → Option Stop → Result ⊤ Fault
end_by malformed None = end_of malformed
end_by malformed (Some stop) = Err (fault.Stopped stop)

abbrev pub end_with : Outcome → Result ⊤ Fault
end_with outcome = end_by outcome.is_malformed outcome.stop
