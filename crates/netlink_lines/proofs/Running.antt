-- What the loops of a run keep, and how the run ends at each exit. `base` is the offset of the first
-- message or packet, and `memory` is what the messages before it left.
use Rattle.std.proofs.Common.{◌≡◌, ◌≢◌, ◌≤◌, ◌+◌, ◌∙◌, inl, inr, refl, ℕ, List, [], ◌∷◌, ◌++◌, Option, Some, None, IfSome, Result, Ok, Err, drop, take, length, ap, sym, subst, append-nil, append_assoc, take-append-drop}
use Rattle.std.proofs.KnownBytes.{Appends-nil, Appends-trans}
use Rattle.std.specs.Io.KnownBytes.{Appends, Consumes, IsAtEnd}
use Rattle.std.specs.Prelude.{Bool, true, false, ◌||◌, ◌⊎◌, ⊤}
use Rattle.netlink_packet_core.specs.Attribute.{padding}
use Rattle.netlink_lines.specs.Format.{Format, Told, told_from}
use Rattle.netlink_lines.specs.Messages.{Check, Lines, Memory, Tells, stamped}
use Rattle.netlink_lines.specs.Packet.{Stamped, TellsPacket, TellsTorn, packet_leaves, packet_lines, packets_of}
use Rattle.netlink_input.specs.Packet.{IsPacketFault, torn_of}
use Rattle.netlink_input.specs.Reading.{GivesNext, GivesPacket, Skips, SkipsPart}
use Rattle.netlink_input.specs.Time.{pcap_time}
use Rattle.netlink_lines.specs.Run.{EndsOver, Leaves, Reads, RunsOver, Writes, WritesTorn, end_by, end_of, end_with}
use Rattle.netlink_lines.specs.Stream.{messages_of}
use Rattle.netlink_input.specs.declared.packet.NextPacket.{NextPacket}
use Rattle.netlink_input.specs.declared.packet.NextPacket.TheVariants as packet_next
use Rattle.netlink_input.specs.declared.pcap.Order.{Order}
use Rattle.netlink_input.specs.declared.pcap.PcapFault.{PcapFault}
use Rattle.netlink_input.specs.declared.fault.Fault.{Fault}
use Rattle.netlink_input.specs.declared.fault.Fault.TheVariants as fault
use Rattle.netlink_lines.specs.declared.runs.Outcome.{Outcome}
use Rattle.netlink_input.specs.declared.stream.Cause.{Cause}
use Rattle.netlink_input.specs.declared.stream.Cause.TheVariants.{Pcap}
use Rattle.netlink_input.specs.declared.stream.Next.{Next}
use Rattle.netlink_input.specs.declared.stream.Next.TheVariants.{Frame}
use Rattle.netlink_input.specs.declared.stream.Stop.{Stop}
use Rattle.netlink_lines.proofs.Steps.{IsOne, PassedKnown, StopsAt, TriesOne, ends_here, first_shown, is_message, is_packet, none_lost, none_lost_between, passed_nothing, passes, passes_padding, stops_here, stops_torn, told_push}

-- ---- what the loops keep

-- the messages or packets so far were shown and written and leave this state, and the reader is at this
-- offset, before padding of `missing` bytes
pub record Kept {A : Type 0} (f : Format A) (memory : Memory) (base : ℕ) (old now start end : Option (List ℕ)) (missing at : ℕ) (state : Memory) (malformed : Bool) : Type 0 where
  pub done : List A
  pub passed : PassedKnown f base old done now missing at
  pub leaves : (told_from f memory done).memory ≡ state
  pub any : (told_from f memory done).malformed ≡ malformed
  pub wrote : Appends start end (told_from f memory done).text

-- bytes were read, and are one with these lines after the state, and leave another
pub record IsShown {A : Type 0} (f : Format A) (now left : Option (List ℕ)) (at : ℕ) (bytes : List ℕ) (missing : ℕ) (state : Memory) (lines : Lines) (after : Memory) : Type 0 where
  pub took : Consumes now left bytes
  pub one : A
  pub is : IsOne f now at bytes missing one
  pub tells : lines ≡ f.lines state one
  pub leaves : after ≡ f.leaves state one

pub frame_shown : (check : Check) (now left : Option (List ℕ)) (at : ℕ) (frame view : List ℕ) (next : Next) (state : Memory)
    (lines : Lines) (after : Memory) → GivesNext now left frame next → next ≡ Frame → view ≡ frame
    → Tells check at view state lines after
    → IsShown (messages_of check) now left at frame (padding (length frame)) state lines after
frame_shown check now left at frame view next state lines after gives is same tells =
    let (took, whole, most) = subst (GivesNext now left frame) is gives in
    let (words, has, said, leaves) = subst (λ (f : List ℕ). Tells check at f state lines after) same tells in
    record {
      took = took;
      one = record { at = at; frame = frame; words = words };
      is = is_message check now at frame words whole most has;
      tells = said;
      leaves = leaves;
    }

pub packet_shown : (check : Check) (order : Order) (nano : Bool) (now left : Option (List ℕ)) (at : ℕ) (packet view : List ℕ)
    (next : NextPacket) (state stamp : Memory) (lines : Lines) (after : Memory) → GivesPacket order now left packet next
    → next ≡ packet_next.Packet → view ≡ packet → stamp ≡ stamped state (pcap_time order nano packet)
    → TellsPacket check order at view stamp lines after
    → IsShown (packets_of check order nano) now left at packet 0 state lines after
packet_shown check order nano now left at packet view next state stamp lines after gives is same timed tells =
    let (took, whole, most) = subst (GivesPacket order now left packet) is gives in
    let (shown, has, said, leaves) = subst (λ (p : List ℕ). TellsPacket check order at p stamp lines after) same tells in
    record {
      took = took;
      one = record { time = pcap_time order nano packet; packet = shown };
      is = is_packet check order nano now at packet (record { time = pcap_time order nano packet; packet = shown }) whole most refl has;
      tells = said ∙ ap (λ (m : Memory). packet_lines check m shown) timed;
      leaves = leaves ∙ ap (λ (m : Memory). packet_leaves check m shown) timed;
    }

-- what is told after one more, which has these lines and leaves this
told_more : {A : Type 0} (f : Format A) (memory : Memory) (done : List A) (one : A) (state after : Memory) (lines : Lines)
    (malformed : Bool) → (told_from f memory done).memory ≡ state → (told_from f memory done).malformed ≡ malformed
    → lines ≡ f.lines state one → after ≡ f.leaves state one
    → told_from f memory (done ++ (one ∷ []))
    ≡ record { memory = after; text = (told_from f memory done).text ++ lines.0; malformed = malformed || lines.1 }
told_more f memory done one state after lines malformed leaves any said left =
    let text : List ℕ = (told_from f memory done).text in
    let so_far : Bool = (told_from f memory done).malformed in
    told_push f memory done one
    ∙ ap (λ (m : Memory). record { memory = f.leaves m one; text = text ++ (f.lines m one).0; malformed = so_far || (f.lines m one).1 }) leaves
    ∙ ap (λ (l : Lines). record { memory = f.leaves state one; text = text ++ l.0; malformed = so_far || l.1 }) (sym said)
    ∙ ap (λ (m : Memory). record { memory = m; text = text ++ lines.0; malformed = so_far || lines.1 }) (sym left)
    ∙ ap (λ (b : Bool). record { memory = after; text = text ++ lines.0; malformed = b || lines.1 }) any

pub starts_kept : {A : Type 0} (f : Format A) (memory : Memory) (base : ℕ) (old start : Option (List ℕ))
    → Kept f memory base old old start start 0 base memory false
starts_kept f memory base old start =
    record { done = []; passed = passed_nothing f base old; leaves = refl; any = refl; wrote = Appends-nil start }

-- one more was read, and its lines are written
pub keeps_one : {A : Type 0} (f : Format A) (memory : Memory) (base : ℕ) (old now left start before end : Option (List ℕ)) (missing at : ℕ)
    (state : Memory) (malformed : Bool) (bytes : List ℕ) (lines : Lines) (after : Memory)
    → Kept f memory base old now start before 0 at state malformed → IsShown f now left at bytes missing state lines after
    → Appends before end lines.0
    → Kept f memory base old left start end missing (at + length bytes) after (malformed || lines.1)
keeps_one f memory base old now left start before end missing at state malformed bytes lines after k shown more =
    let told = told_more f memory k.done shown.one state after lines malformed k.leaves k.any shown.tells shown.leaves in
    record {
      done = k.done ++ (shown.one ∷ []);
      passed = passes f base old now left k.done at bytes missing shown.one k.passed shown.took shown.is;
      leaves = ap (λ (t : Told). t.memory) told;
      any = ap (λ (t : Told). t.malformed) told;
      wrote =
          subst (Appends start end) (sym (ap (λ (t : Told). t.text) told))
          (Appends-trans start before end (told_from f memory k.done).text lines.0 k.wrote more);
    }

pub skips_gap : {A : Type 0} (f : Format A) (memory : Memory) (base : ℕ) (old now left start end : Option (List ℕ)) (missing at n : ℕ)
    (state : Memory) (malformed : Bool) → Kept f memory base old now start end missing at state malformed
    → Skips now left missing n → Kept f memory base old left start end 0 (at + n) state malformed
skips_gap f memory base old now left start end missing at n state malformed k skips = record {
  done = k.done;
  passed = passes_padding f base old now left k.done missing at n k.passed skips;
  leaves = k.leaves;
  any = k.any;
  wrote = k.wrote;
}

-- ---- how the run ends

-- a run over what the reader had
abbrev pub Ended : {A : Type 0} → Format A → Memory → ℕ → Option (List ℕ) → Option (List ℕ) → Option (List ℕ) → Option (List ℕ)
    → Memory → Result ⊤ Fault → Type 0
Ended f memory base old left start end after result =
    IfSome old (λ input. RunsOver f memory (base + length input) input left start end after result)

pub runs : {A : Type 0} (f : Format A) (memory : Memory) (base : ℕ) (old left start end : Option (List ℕ)) (done : List A)
    (after : Memory) (result : Result ⊤ Fault)
    → IfSome old (λ input. Reads f (base + length input) input left done (told_from f memory done).malformed result)
    → Writes start end (told_from f memory done).text result → Leaves (told_from f memory done).memory after result
    → Ended f memory base old left start end after result
runs f memory base None left start end done after result reads writes leaves = tt
runs f memory base (Some input) left start end done after result reads writes leaves = (done, reads, writes, leaves)

ends_well : {A : Type 0} (f : Format A) (memory : Memory) (base : ℕ) (old now left start end : Option (List ℕ)) (done : List A) (at : ℕ)
    (after : Memory) (malformed : Bool) → PassedKnown f base old done now 0 at → (told_from f memory done).malformed ≡ malformed
    → Appends start end (told_from f memory done).text → after ≡ (told_from f memory done).memory
    → IsAtEnd now → Ended f memory base old left start end after (end_of malformed)
ends_well f memory base None now left start end done at after malformed passed any wrote leaves none = tt
ends_well f memory base (Some input) now left start end done at after true passed any wrote leaves none =
    (done, (ends_here f base (Some input) now done at passed none, any), wrote, leaves)
ends_well f memory base (Some input) now left start end done at after false passed any wrote leaves none =
    (done, (ends_here f base (Some input) now done at passed none, any), wrote, leaves)

pub at_the_end : {A : Type 0} (f : Format A) (memory : Memory) (base : ℕ) (old now left start end : Option (List ℕ)) (at : ℕ)
    (state : Memory) (malformed : Bool) → Kept f memory base old now start end 0 at state malformed → IsAtEnd now
    → Ended f memory base old left start end state (end_of malformed)
at_the_end f memory base old now left start end at state malformed k none =
    ends_well f memory base old now left start end k.done at state malformed k.passed k.any k.wrote (sym k.leaves) none

-- the packets stop, and the lines of what is left are written
abbrev pub IsLeft : Order → PcapFault → List ℕ → List ℕ → Type 0
IsLeft order why kept rest = ((rest ≢ []) × IsPacketFault order rest why) × (torn_of why kept ≡ torn_of why rest)

pub left_here : (order : Order) (why : PcapFault) (kept : List ℕ) (now : Option (List ℕ))
    → IfSome now (λ rest. (rest ≢ []) × IsPacketFault order rest why) → IfSome now (λ rest. torn_of why kept ≡ torn_of why rest)
    → IfSome now (IsLeft order why kept)
left_here order why kept None is same = tt
left_here order why kept (Some rest) is same = (is, same)

pub at_torn_stop : (check : Check) (order : Order) (nano : Bool) (memory : Memory) (base : ℕ) (old now left start before end : Option (List ℕ))
    (at : ℕ) (state : Memory) (malformed : Bool) (why : PcapFault) (kept : List ℕ) (stamp : Memory) (lines : Lines) (after : Memory)
    → Kept (packets_of check order nano) memory base old now start before 0 at state malformed → IfSome now (IsLeft order why kept)
    → stamp ≡ stamped state (pcap_time order nano (torn_of why kept)) → TellsTorn check at (torn_of why kept) stamp lines after → Appends before end lines.0
    → Ended (packets_of check order nano) memory base old left start end after
    (Err (fault.Stopped (record { at = at; cause = Pcap why })))
at_torn_stop check order nano memory base None now left start before end at state malformed why kept stamp lines after k is timed tells more = tt
at_torn_stop check order nano memory base (Some input) None left start before end at state malformed why kept stamp lines after k is timed tells more =
    absurd k.passed
at_torn_stop check order nano memory base (Some input) (Some rest) left start before end at state malformed why kept stamp lines after k is timed (packet, torn, said, leaves) more =
    let f : Format Stamped = packets_of check order nano in
    let shown : Stamped = record { time = pcap_time order nano (torn_of why kept); packet = packet } in
    let told = told_more f memory k.done shown state after lines malformed k.leaves k.any
    (said ∙ ap (λ (m : Memory). packet_lines check m packet) timed) (leaves ∙ ap (λ (m : Memory). packet_leaves check m packet) timed) in (
      k.done ++ (shown ∷ []),
      stops_torn check order nano base input rest k.done at why kept shown k.passed is.0 is.1 refl torn,
      subst (Appends start end) (sym (ap (λ (t : Told). t.text) told))
          (Appends-trans start before end (told_from f memory k.done).text lines.0 k.wrote more),
      sym (ap (λ (t : Told). t.memory) told),
    )

-- a part of these lines was written
no_torn_write : (check : Check) (order : Order) (nano : Bool) (memory : Memory) (base : ℕ) (old now left start before end : Option (List ℕ))
    (at : ℕ) (state : Memory) (malformed : Bool) (why : PcapFault) (kept : List ℕ) (stamp : Memory) (lines : Lines) (after : Memory)
    → Kept (packets_of check order nano) memory base old now start before 0 at state malformed → IfSome now (IsLeft order why kept)
    → stamp ≡ stamped state (pcap_time order nano (torn_of why kept)) → TellsTorn check at (torn_of why kept) stamp lines after → (n : ℕ) × (n ≤ length lines.0) × Appends before end (take n lines.0)
    → Ended (packets_of check order nano) memory base old left start end after (Err fault.Write)
no_torn_write check order nano memory base None now left start before end at state malformed why kept stamp lines after k is timed tells more = tt
no_torn_write check order nano memory base (Some input) None left start before end at state malformed why kept stamp lines after k is timed tells more =
    absurd k.passed
no_torn_write check order nano memory base (Some input) (Some rest) left start before end at state malformed why kept stamp lines after k is timed (packet, torn, said, leaves) (n, few, more) =
    let f : Format Stamped = packets_of check order nano in
    let shown : Stamped = record { time = pcap_time order nano (torn_of why kept); packet = packet } in
    let told = told_more f memory k.done shown state after lines malformed k.leaves k.any
    (said ∙ ap (λ (m : Memory). packet_lines check m packet) timed) (leaves ∙ ap (λ (m : Memory). packet_leaves check m packet) timed) in
    let so_far : List ℕ = (told_from f memory k.done).text in
    let split : (told_from f memory (k.done ++ (shown ∷ []))).text ≡ (so_far ++ take n lines.0) ++ drop n lines.0 =
    ap (λ (t : Told). t.text) told ∙ ap (λ (l : List ℕ). so_far ++ l) (sym (take-append-drop n lines.0))
    ∙ sym (append_assoc so_far (take n lines.0) (drop n lines.0)) in (
      k.done ++ (shown ∷ []),
      inr (record { at = at; cause = Pcap why }, stops_torn check order nano base input rest k.done at why kept shown k.passed is.0 is.1 refl torn),
      (so_far ++ take n lines.0, drop n lines.0, split, Appends-trans start before end so_far (take n lines.0) k.wrote more),
      sym (ap (λ (t : Told). t.memory) told),
    )

-- the same with an outcome
abbrev pub EndedWith : {A : Type 0} → Format A → Memory → ℕ → Option (List ℕ) → Option (List ℕ) → Option (List ℕ) → Option (List ℕ)
    → Memory → Result Outcome Fault → Type 0
EndedWith f memory base old left start end after result =
    IfSome old (λ input. EndsOver f memory (base + length input) input left start end after result)

pub ends_whole : {A : Type 0} (f : Format A) (memory : Memory) (base : ℕ) (old now left start end : Option (List ℕ)) (at : ℕ)
    (state : Memory) (malformed : Bool) → Kept f memory base old now start end 0 at state malformed → IsAtEnd now
    → EndedWith f memory base old left start end state (Ok (record { is_malformed = malformed; stop = None }))
ends_whole f memory base None now left start end at state malformed k none = tt
ends_whole f memory base (Some input) now left start end at state malformed k none =
    (k.done, ends_here f base (Some input) now k.done at k.passed none, k.any, k.wrote, sym k.leaves)

pub ends_at_stop : {A : Type 0} (f : Format A) (memory : Memory) (base : ℕ) (old now left start end : Option (List ℕ)) (at : ℕ)
    (state : Memory) (malformed : Bool) (cause : Cause) → Kept f memory base old now start end 0 at state malformed
    → IfSome now (StopsAt f at cause)
    → EndedWith f memory base old left start end state
    (Ok (record { is_malformed = malformed; stop = Some (record { at = at; cause = cause }) }))
ends_at_stop f memory base None now left start end at state malformed cause k is = tt
ends_at_stop f memory base (Some input) now left start end at state malformed cause k is =
    (k.done, stops_here f base (Some input) now k.done at cause k.passed is, k.any, k.wrote, sym k.leaves)

-- a run ends by its outcome
over_by : (check : Check) (memory : Memory) (end : ℕ) (bytes : List ℕ) (left old new : Option (List ℕ)) (after : Memory)
    (malformed : Bool) (stop : Option Stop)
    → EndsOver (messages_of check) memory end bytes left old new after (Ok (record { is_malformed = malformed; stop = stop }))
    → RunsOver (messages_of check) memory end bytes left old new after (end_by malformed stop)
over_by check memory end bytes left old new after malformed (Some stop) (all, shows, any, wrote, leaves) =
    (all, (all, [], sym (append-nil all), shows, refl), wrote, leaves)
over_by check memory end bytes left old new after true None (all, shows, any, wrote, leaves) = (all, (shows, any), wrote, leaves)
over_by check memory end bytes left old new after false None (all, shows, any, wrote, leaves) = (all, (shows, any), wrote, leaves)

pub ended_with : (check : Check) (memory : Memory) (base : ℕ) (old left start end : Option (List ℕ)) (after : Memory)
    (outcome : Outcome) → EndedWith (messages_of check) memory base old left start end after (Ok outcome)
    → Ended (messages_of check) memory base old left start end after (end_with outcome)
ended_with check memory base None left start end after outcome ends = tt
ended_with check memory base (Some input) left start end after outcome ends =
    over_by check memory (base + length input) input left start end after outcome.is_malformed outcome.stop ends

pub without_memory : {A : Type 0} (f : Format A) (memory : Memory) (base : ℕ) (old now left start end : Option (List ℕ)) (at : ℕ)
    (state : Memory) (malformed : Bool) (after : Memory) → Kept f memory base old now start end 0 at state malformed
    → Ended f memory base old left start end after (Err fault.OutOfMemory)
without_memory f memory base old now left start end at state malformed after k =
    runs f memory base old left start end k.done after (Err fault.OutOfMemory)
    (first_shown f base old now k.done 0 at k.passed) k.wrote tt

-- the lines of what was left could not be written
torn_ends : (check : Check) (order : Order) (nano : Bool) (memory : Memory) (base : ℕ) (old now left start before end : Option (List ℕ))
    (at : ℕ) (state : Memory) (malformed : Bool) (why : PcapFault) (kept : List ℕ) (stamp after : Memory) (fails : Fault)
    → Kept (packets_of check order nano) memory base old now start before 0 at state malformed → IfSome now (IsLeft order why kept)
    → stamp ≡ stamped state (pcap_time order nano (torn_of why kept)) → WritesTorn {R = ⊤} check at (torn_of why kept) stamp after before end (Err fails)
    → Ended (packets_of check order nano) memory base old left start end after (Err fails)
torn_ends check order nano memory base old now left start before end at state malformed why kept stamp after fault.Write k is timed (lines, tells, n, few, more) =
    no_torn_write check order nano memory base old now left start before end at state malformed why kept stamp lines after k is timed tells (n, few, more)
torn_ends check order nano memory base old now left start before end at state malformed why kept stamp after fault.OutOfMemory k is timed same =
    subst (λ (e : Option (List ℕ)). Ended (packets_of check order nano) memory base old left start e after (Err fault.OutOfMemory)) (sym same)
    (without_memory (packets_of check order nano) memory base old now left start before at state malformed after k)
torn_ends check order nano memory base old now left start before end at state malformed why kept stamp after other k is timed fails = absurd fails

pub torn_fails : (check : Check) (order : Order) (nano : Bool) (memory : Memory) (base : ℕ) (old now left start before end : Option (List ℕ))
    (at : ℕ) (state : Memory) (malformed : Bool) (why : PcapFault) (kept view : List ℕ) (stamp after : Memory) (fails : Fault)
    → Kept (packets_of check order nano) memory base old now start before 0 at state malformed → IfSome now (IsLeft order why kept)
    → view ≡ kept → stamp ≡ stamped state (pcap_time order nano (torn_of why kept))
    → WritesTorn {R = ⊤} check at (torn_of why view) stamp after before end (Err fails)
    → Ended (packets_of check order nano) memory base old left start end after (Err fails)
torn_fails check order nano memory base old now left start before end at state malformed why kept view stamp after fails k is same timed writes =
    torn_ends check order nano memory base old now left start before end at state malformed why kept stamp after fails k is timed
    (subst (λ (l : List ℕ). WritesTorn {R = ⊤} check at (torn_of why l) stamp after before end (Err fails)) same writes)

-- the reader gave no more, or too many messages or packets, or bytes
pub failed_read : {A : Type 0} (f : Format A) (memory : Memory) (base : ℕ) (old now left start end : Option (List ℕ)) (at : ℕ)
    (state : Memory) (malformed : Bool) → Kept f memory base old now start end 0 at state malformed → TriesOne f now left
    → Ended f memory base old left start end state (Err fault.Read)
failed_read f memory base old now left start end at state malformed k tries =
    runs f memory base old left start end k.done state (Err fault.Read)
    (none_lost f base old now left k.done at k.passed tries) k.wrote (sym k.leaves)

-- no message or packet was read
pub no_one : {A : Type 0} (f : Format A) (memory : Memory) (base : ℕ) (old now left start end : Option (List ℕ)) (at : ℕ)
    (state : Memory) (malformed : Bool) (why : Fault) → Kept f memory base old now start end 0 at state malformed
    → (why ≡ fault.OutOfMemory) ⊎ ((why ≡ fault.Read) × TriesOne f now left)
    → Ended f memory base old left start end state (Err why)
no_one f memory base old now left start end at state malformed why k (inl is) =
    subst (λ (e : Fault). Ended f memory base old left start end state (Err e)) (sym is)
    (without_memory f memory base old now left start end at state malformed state k)
no_one f memory base old now left start end at state malformed why k (inr tries) =
    subst (λ (e : Fault). Ended f memory base old left start end state (Err e)) (sym tries.0)
    (failed_read f memory base old now left start end at state malformed k tries.1)

pub no_padding : (check : Check) (memory : Memory) (base : ℕ) (old now left start end : Option (List ℕ)) (missing at : ℕ)
    (state : Memory) (malformed : Bool) (why : Fault)
    → Kept (messages_of check) memory base old now start end missing at state malformed
    → (why ≡ fault.Read) × SkipsPart now left missing
    → Ended (messages_of check) memory base old left start end state (Err why)
no_padding check memory base old now left start end missing at state malformed why k (is, part) =
    subst (λ (e : Fault). Ended (messages_of check) memory base old left start end state (Err e)) (sym is)
    (runs (messages_of check) memory base old left start end k.done state (Err fault.Read)
    (none_lost_between check base old now left k.done missing at k.passed part) k.wrote (sym k.leaves))

-- a part of the lines of one more was written
pub no_write : {A : Type 0} (f : Format A) (memory : Memory) (base : ℕ) (old now left other start before end : Option (List ℕ))
    (missing at : ℕ) (state : Memory) (malformed : Bool) (bytes : List ℕ) (lines : Lines) (after : Memory)
    → Kept f memory base old now start before 0 at state malformed → IsShown f now left at bytes missing state lines after
    → (n : ℕ) × (n ≤ length lines.0) × Appends before end (take n lines.0)
    → Ended f memory base old other start end after (Err fault.Write)
no_write f memory base old now left other start before end missing at state malformed bytes lines after k shown (n, few, more) =
    let all : List _ = k.done ++ (shown.one ∷ []) in
    let told = told_more f memory k.done shown.one state after lines malformed k.leaves k.any shown.tells shown.leaves in
    let so_far : List ℕ = (told_from f memory k.done).text in
    let split : (told_from f memory all).text ≡ (so_far ++ take n lines.0) ++ drop n lines.0 =
    ap (λ (t : Told). t.text) told ∙ ap (λ (l : List ℕ). so_far ++ l) (sym (take-append-drop n lines.0))
    ∙ sym (append_assoc so_far (take n lines.0) (drop n lines.0)) in
    runs f memory base old other start end all after (Err fault.Write)
    (first_shown f base old left all missing (at + length bytes)
    (passes f base old now left k.done at bytes missing shown.one k.passed shown.took shown.is))
    (so_far ++ take n lines.0, drop n lines.0, split, Appends-trans start before end so_far (take n lines.0) k.wrote more)
    (sym (ap (λ (t : Told). t.memory) told))

-- ---- one message

-- a frame was read, and its lines are written
pub frame_kept : (check : Check) (memory : Memory) (base : ℕ) (old now left start before end : Option (List ℕ)) (at size : ℕ)
    (state : Memory) (malformed both : Bool) (frame view bytes : List ℕ) (next : Next) (lines : Lines) (after : Memory)
    → Kept (messages_of check) memory base old now start before 0 at state malformed
    → GivesNext now left frame next → next ≡ Frame → view ≡ frame → Tells check at view state lines after → bytes ≡ lines.0
    → Appends before end bytes → size ≡ length frame → both ≡ (malformed || lines.1)
    → Kept (messages_of check) memory base old left start end (padding size) (at + size) after both
frame_kept check memory base old now left start before end at size state malformed both frame view bytes next lines after k gives is same tells text more long any =
    let shown = frame_shown check now left at frame view next state lines after gives is same tells in
    let wrote : Appends before end lines.0 = subst (Appends before end) text more in
    let kept =
    keeps_one (messages_of check) memory base old now left start before end (padding (length frame)) at state malformed frame lines after k shown wrote in
    subst (λ (b : Bool). Kept (messages_of check) memory base old left start end (padding size) (at + size) after b) (sym any)
    (subst (λ (n : ℕ). Kept (messages_of check) memory base old left start end (padding n) (at + n) after (malformed || lines.1)) (sym long) kept)
