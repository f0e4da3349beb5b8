-- What a packet tells, from the run over its datagram or from its own line.
use Rattle.std.proofs.Common.{◌≡◌, ◌+◌, ◌-◌, ◌∙◌, refl, ap, sym, subst, ℕ, List, [], ◌++◌, Option, Some, IfOk, IfSome, Result, Ok, Err, append_assoc, drop, length}
use Rattle.std.proofs.Math.Bool.{or-true}
use Rattle.std.specs.Io.KnownBytes.{prepend_known}
use Rattle.std.specs.Prelude.{Bool, true, false, ◌||◌}
use Rattle.netlink_lines.specs.Format.{told_from}
use Rattle.netlink_lines.specs.Messages.{Check, Lines, Memory, Seen, good}
use Rattle.netlink_lines.specs.Packet.{HasContent, IsCut, IsDatagram, IsTornBy, TellsDatagram, TellsExtent, TellsShown, TellsTorn, content_shown, content_of, is_route, stop_shown, with_line}
use Rattle.netlink_lines.specs.Run.{EndsOver}
use Rattle.netlink_lines.specs.Stream.{ShowsMessages, messages_of}
use Rattle.netlink_lines.specs.declared.packet.Content.{Content}
use Rattle.netlink_lines.specs.declared.packet.Content.TheVariants as content
use Rattle.netlink_input.specs.declared.packet.Extent.{Extent}
use Rattle.netlink_input.specs.declared.fault.Fault.{Fault}
use Rattle.netlink_lines.specs.declared.runs.Outcome.{Outcome}
use Rattle.netlink_input.specs.declared.stream.Stop.{Stop}

-- ---- a datagram

-- its messages and what ends it have these lines
told_datagram : (check : Check) (cut : Bool) (memory after : Memory) (at : ℕ) (bytes : List ℕ) (all : List Seen) (stop : Option Stop) (text : List ℕ)
    (malformed : Bool) → ShowsMessages (at + length bytes) bytes all stop
    → text ≡ (told_from (messages_of check) memory all).text ++ (stop_shown cut at bytes stop memory.options.json).0
    → malformed ≡ ((told_from (messages_of check) memory all).malformed || (stop_shown cut at bytes stop memory.options.json).1)
    → after ≡ (told_from (messages_of check) memory all).memory
    → TellsDatagram check cut at bytes memory (text, malformed) after
told_datagram check cut memory after at bytes all stop text malformed shows said bad leaves = (
  record { seen = all; own = stop_shown cut at bytes stop },
  (stop, shows, refl),
  ap (λ (t : List ℕ). (t, malformed)) said
      ∙ ap (λ (b : Bool). ((told_from (messages_of check) memory all).text ++ (stop_shown cut at bytes stop memory.options.json).0, b)) bad,
  leaves,
)

-- a run over the datagram alone, of which the reader had every byte, and the writer none
abbrev pub EndsAlone : Check → Memory → Memory → ℕ → List ℕ → List ℕ → Option (List ℕ) → List ℕ → List ℕ → Result Outcome Fault → Type 0
EndsAlone check memory after at first bytes left old new result =
    IfSome (prepend_known first (Some bytes)) (λ all. EndsOver (messages_of check) memory (at + length all) all left (Some old) (Some new) after result)

alone : (check : Check) (memory after : Memory) (at : ℕ) (first bytes : List ℕ) (left : Option (List ℕ)) (old new : List ℕ)
    (result wanted : Result Outcome Fault) → first ≡ [] → old ≡ [] → result ≡ wanted
    → EndsAlone check memory after at first bytes left old new result
    → EndsOver (messages_of check) memory (at + length bytes) bytes left (Some []) (Some new) after wanted
alone check memory after at first bytes left old new result wanted none empty is ends =
    subst (λ (r : Result Outcome Fault). EndsOver (messages_of check) memory (at + length bytes) bytes left (Some []) (Some new) after r) is
    (subst (λ (o : List ℕ). EndsOver (messages_of check) memory (at + length bytes) bytes left (Some o) (Some new) after result) empty
    (subst (λ (f : List ℕ). EndsAlone check memory after at f bytes left old new result) none ends))

pub datagram_ends : (check : Check) (cut : Bool) (memory after : Memory) (at : ℕ) (first bytes : List ℕ) (left : Option (List ℕ)) (old new text : List ℕ)
    (malformed stopped : Bool) (outcome : Outcome) (result : Result Outcome Fault) → first ≡ [] → old ≡ [] → result ≡ Ok outcome
    → text ≡ new ++ (stop_shown cut at bytes outcome.stop memory.options.json).0 → stopped ≡ (stop_shown cut at bytes outcome.stop memory.options.json).1
    → malformed ≡ (outcome.is_malformed || stopped)
    → EndsAlone check memory after at first bytes left old new result → TellsDatagram check cut at bytes memory (text, malformed) after
datagram_ends check cut memory after at first bytes left old new text malformed stopped outcome result none empty is line stop both ends =
    let (all, shows, any, wrote, leaves) = alone check memory after at first bytes left old new result (Ok outcome) none empty is ends in
    told_datagram check cut memory after at bytes all outcome.stop text malformed shows
    (line ∙ ap (λ (l : List ℕ). l ++ (stop_shown cut at bytes outcome.stop memory.options.json).0) wrote)
    (both ∙ ap (λ (b : Bool). b || stopped) (sym any)
    ∙ ap (λ (b : Bool). (told_from (messages_of check) memory all).malformed || b) stop) leaves

-- ---- a packet

pub packet_tells : (check : Check) (extent : Extent) (at : ℕ) (packet bytes : List ℕ) (memory after : Memory) (lines : List ℕ)
    (what : Content) (r : Result Bool Fault) → what ≡ content_of extent packet → what ≡ content.Messages
    → bytes ≡ drop (extent.from + 16) packet → IfOk r (λ malformed. TellsDatagram check false (at + (extent.from + 16)) bytes memory (lines, malformed) after)
    → IfOk r (λ malformed. TellsExtent check extent at packet memory (lines, malformed) after)
packet_tells check extent at packet bytes memory after lines what (Err e) has is same tells = tt
packet_tells check extent at packet bytes memory after lines what (Ok malformed) has is same (shown, shows, said, leaves) =
    let datagram : IsDatagram false (at + (extent.from + 16)) (drop (extent.from + 16) packet) shown =
    subst (λ (l : List ℕ). IsDatagram false (at + (extent.from + 16)) l shown) same shows in
    (shown, subst (λ (w : Content). HasContent at (extent.from + 16) packet w shown) (sym is ∙ has) datagram, said, leaves)

-- the line about the cut follows
with_cut : (check : Check) (memory after : Memory) (at : ℕ) (bytes lines text : List ℕ) (malformed : Bool) (line : Bool → Lines)
    → TellsDatagram check true at bytes memory (lines, malformed) after → text ≡ lines ++ (line memory.options.json).0
    → (line memory.options.json).1 ≡ true → TellsShown check (IsCut at bytes line) memory (text, true) after
with_cut check memory after at bytes lines text malformed line (part, is, said, leaves) same bad =
    let told = told_from (messages_of check) memory part.seen in
    let own : Lines = part.own memory.options.json in
    let more : Lines = line memory.options.json in
    let all : text ≡ told.text ++ (own.0 ++ more.0) =
    same ∙ ap (λ (l : Lines). l.0 ++ more.0) said ∙ append_assoc told.text own.0 more.0 in
    let flag : true ≡ (told.malformed || (own.1 || more.1)) =
    sym (ap (λ (b : Bool). told.malformed || (own.1 || b)) bad ∙ ap (λ (b : Bool). told.malformed || b) (or-true own.1)
    ∙ or-true told.malformed) in (
      with_line line part,
      (part, is, refl),
      ap (λ (t : List ℕ). (t, true)) all ∙ ap (λ (b : Bool). (told.text ++ (own.0 ++ more.0), b)) flag,
      leaves,
    )

-- a packet that was cut is malformed
cut_flag : (at size n m : ℕ) (json : Bool) → (content_shown at size (content.Cut n m) json).1 ≡ true
cut_flag at size n m true = refl
cut_flag at size n m false = refl

pub cut_tells : (check : Check) (extent : Extent) (at : ℕ) (packet bytes : List ℕ) (memory after : Memory) (lines text more : List ℕ)
    (malformed other : Bool) (n m : ℕ) (what : Content) → what ≡ content_of extent packet → what ≡ content.CutMessages n m
    → bytes ≡ drop (extent.from + 16) packet → TellsDatagram check true (at + (extent.from + 16)) bytes memory (lines, malformed) after
    → ◌≡◌ {A = Lines} (more, other) (content_shown at (length packet - (extent.from + 16)) (content.Cut n m) memory.options.json) → text ≡ lines ++ more
    → TellsExtent check extent at packet memory (text, true) after
cut_tells check extent at packet bytes memory after lines text more malformed other n m what has is same tells line all =
    let cut : Bool → Lines = content_shown at (length packet - (extent.from + 16)) (content.Cut n m) in
    let datagram : TellsDatagram check true (at + (extent.from + 16)) (drop (extent.from + 16) packet) memory (lines, malformed) after =
    subst (λ (l : List ℕ). TellsDatagram check true (at + (extent.from + 16)) l memory (lines, malformed) after) same tells in
    subst (λ (w : Content). TellsShown check (HasContent at (extent.from + 16) packet w) memory (text, true) after) (sym is ∙ has)
    (with_cut check memory after (at + (extent.from + 16)) (drop (extent.from + 16) packet) lines text malformed cut datagram
    (all ∙ ap (λ (l : Lines). lines ++ l.0) line) (cut_flag at (length packet - (extent.from + 16)) n m memory.options.json))

-- ---- a packet that the end of the file cuts

pub torn_tells : (check : Check) (at : ℕ) (packet bytes : List ℕ) (memory after : Memory) (lines : List ℕ) (r : Result Bool Fault)
    → is_route 16 packet ≡ true → bytes ≡ drop 32 packet
    → IfOk r (λ malformed. TellsDatagram check true (at + 32) bytes memory (lines, malformed) after)
    → IfOk r (λ malformed. TellsTorn check at packet memory (lines, malformed) after)
torn_tells check at packet bytes memory after lines (Err e) is same tells = tt
torn_tells check at packet bytes memory after lines (Ok malformed) is same (shown, shows, said, leaves) =
    let datagram : IsDatagram true (at + 32) (drop 32 packet) shown =
    subst (λ (l : List ℕ). IsDatagram true (at + 32) l shown) same shows in
    (shown, subst (λ (b : Bool). IsTornBy b at packet shown) (sym is) datagram, said, leaves)

pub nothing_torn : (check : Check) (at : ℕ) (packet : List ℕ) (memory : Memory) (lines : List ℕ) → is_route 16 packet ≡ false
    → lines ≡ [] → TellsTorn check at packet memory (lines, false) memory
nothing_torn check at packet memory lines is none = (
  record { seen = []; own = λ json. good [] },
  subst (λ (b : Bool). IsTornBy b at packet (record { seen = []; own = λ json. good [] })) (sym is) refl,
  ap (λ (t : List ℕ). (t, false)) none,
  refl,
)

-- ---- any other packet

own_line : (at before : ℕ) (packet : List ℕ) (what : Content) → (what ≡ content.Messages → ⊥)
    → ((n m : ℕ) → what ≡ content.CutMessages n m → ⊥)
    → HasContent at before packet what (record { seen = []; own = content_shown at (length packet - before) what })
own_line at before packet content.Messages not none = absurd (not refl)
own_line at before packet (content.CutMessages n m) not none = absurd (none n m refl)
own_line at before packet (content.Family n) not none = (refl, refl)
own_line at before packet (content.Cut n m) not none = (refl, refl)
own_line at before packet (content.Short n) not none = (refl, refl)
own_line at before packet (content.Device n) not none = (refl, refl)

pub other_tells : (check : Check) (extent : Extent) (at : ℕ) (packet : List ℕ) (memory : Memory) (lines text : List ℕ) (malformed : Bool)
    (what : Content) → what ≡ content_of extent packet → (what ≡ content.Messages → ⊥)
    → ((n m : ℕ) → what ≡ content.CutMessages n m → ⊥) → lines ≡ text
    → ◌≡◌ {A = Lines} (text, malformed) (content_shown at (length packet - (extent.from + 16)) what memory.options.json)
    → TellsExtent check extent at packet memory (lines, malformed) memory
other_tells check extent at packet memory lines text malformed what has not none same is = (
  record { seen = []; own = content_shown at (length packet - (extent.from + 16)) what },
  subst (λ (w : Content). HasContent at (extent.from + 16) packet w (record { seen = []; own = content_shown at (length packet - (extent.from + 16)) what })) has
      (own_line at (extent.from + 16) packet what not none),
  subst (λ (l : List ℕ). ◌≡◌ {A = Lines} (l, malformed) (content_shown at (length packet - (extent.from + 16)) what memory.options.json)) (sym same) is,
  refl,
)
