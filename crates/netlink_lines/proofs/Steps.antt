-- The messages or packets so far, and how bytes end, where those of the reader are known.
use Rattle.std.proofs.Common.{◌≡◌, ◌≢◌, ◌<◌, ◌≤◌, ◌+◌, ◌-◌, ◌∙◌, refl, ℕ, List, [], ◌∷◌, ◌++◌, Option, Some, None, IfSome, drop, take, length, ap, sym, subst, inl, inr, arith, append_assoc, length-append, length-drop, take-append-drop}
use Rattle.std.proofs.lemmas.Bool.{cases_lt}
use Rattle.std.proofs.lemmas.List.{drop_all, drop_at, length-take-le, take_all, take_at}
use Rattle.std.proofs.lemmas.List.Sums.{fold-append}
use Rattle.std.specs.Io.KnownBytes.{Consumes, IsAtEnd}
use Rattle.netlink_packet_core.specs.Attribute.{padding}
use Rattle.netlink_packet_core.specs.FrameWalk.{IsWholeFrame, StartsFrame}
use Rattle.std.specs.Prelude.{Bool}
use Rattle.netlink_packet_core.specs.Walks.{Passed, passed_ends, passed_faults, passed_keeps, passed_push}
use Rattle.netlink_replies.specs.Meaning.{meaning}
use Rattle.netlink_lines.specs.Ack.{IsWords}
use Rattle.netlink_lines.specs.Format.{Format, ShowsAll, StopsAs, tell, told_from, told_nothing}
use Rattle.netlink_lines.specs.Messages.{Check, Memory, Seen}
use Rattle.netlink_lines.specs.Packet.{HasExtent, IsTorn, Stamped, StartsPacket, packets_of}
use Rattle.netlink_input.specs.Packet.{IsPacketFault, IsWholePacket, captured_of, extent_of, torn_of}
use Rattle.netlink_input.specs.Reading.{Skips, SkipsPart}
use Rattle.netlink_lines.specs.Run.{NoneLost, ShowsFirst}
use Rattle.netlink_lines.specs.Stream.{messages_of}
use Rattle.netlink_input.specs.Stream.{IsCause, longest}
use Rattle.netlink_input.specs.Time.{pcap_time}
use Rattle.netlink_input.specs.declared.pcap.Order.{Order}
use Rattle.netlink_input.specs.declared.pcap.PcapFault.{PcapFault}
use Rattle.netlink_input.specs.declared.stream.Cause.{Cause}
use Rattle.netlink_input.specs.declared.stream.Cause.TheVariants.{Pcap}
use Rattle.netlink_input.specs.ReadingLaws.{no_header}

-- ---- the messages or packets so far

-- those that were shown, and what is then left in the reader, from this offset on, of which the first
-- `missing` bytes are padding; the first is at the offset `base`
abbrev pub PassedKnown : {A : Type 0} → Format A → ℕ → Option (List ℕ) → List A → Option (List ℕ) → ℕ → ℕ → Type 0
PassedKnown f base None done now missing at = Unit {0}
PassedKnown f base (Some input) done None missing at = ⊥
PassedKnown f base (Some input) done (Some left) missing at =
    Passed (f.starts (base + length input)) input done (drop missing left) × (at + length left ≡ base + length input)

pub passed_nothing : {A : Type 0} (f : Format A) (base : ℕ) (old : Option (List ℕ)) → PassedKnown f base old [] old 0 base
passed_nothing f base None = tt
passed_nothing f base (Some input) = (refl, refl)

-- bytes at this offset, which the reader had, are one of these, with this padding, whatever follows
abbrev pub IsOne : {A : Type 0} → Format A → Option (List ℕ) → ℕ → List ℕ → ℕ → A → Type 0
IsOne f now at bytes missing one =
    (end : ℕ) (whole after : List ℕ) → now ≡ Some whole → whole ≡ bytes ++ after → at ≡ end - length whole
    → f.starts end whole one (drop missing after)

pub passes : {A : Type 0} (f : Format A) (base : ℕ) (old now left : Option (List ℕ)) (done : List A) (at : ℕ)
    (bytes : List ℕ) (missing : ℕ) (one : A) → PassedKnown f base old done now 0 at → Consumes now left bytes
    → IsOne f now at bytes missing one → PassedKnown f base old (done ++ (one ∷ [])) left missing (at + length bytes)
passes f base None now left done at bytes missing one passed took is = tt
passes f base (Some input) None left done at bytes missing one passed took is = absurd passed
passes f base (Some input) (Some rest) None done at bytes missing one passed took is = absurd took
passes f base (Some input) (Some rest) (Some after) done at bytes missing one (passed, place) took is =
    let here : at ≡ base + length input - length rest = omega (arith, place) in
    let long : length rest ≡ length bytes + length after = ap length took ∙ length-append bytes after in (
      passed_push (f.starts (base + length input)) input done rest one (drop missing after) passed
          (is (base + length input) rest after refl took here),
      omega (arith, place, long),
    )

pub passes_padding : {A : Type 0} (f : Format A) (base : ℕ) (old now left : Option (List ℕ)) (done : List A) (missing at n : ℕ)
    → PassedKnown f base old done now missing at → Skips now left missing n → PassedKnown f base old done left 0 (at + n)
passes_padding f base None now left done missing at n passed skips = tt
passes_padding f base (Some input) None left done missing at n passed skips = absurd passed
passes_padding f base (Some input) (Some rest) None done missing at n passed skips = absurd skips
passes_padding f base (Some input) (Some rest) (Some after) done missing at n (passed, place) (is, size) =
    (subst (Passed (f.starts (base + length input)) input done) (sym is) passed, omega (arith, place, size))

-- ---- a frame, and a packet

-- a frame and then other bytes start with the frame
starts_whole : (bytes frame left : List ℕ) → bytes ≡ frame ++ left → IsWholeFrame frame
    → StartsFrame bytes frame (drop (padding (length frame)) left)
starts_whole bytes frame left is whole =
    let missing : ℕ = padding (length frame) in
    record {
      size = whole.size;
      least = whole.least;
      gap = take missing left;
      whole = is ∙ ap (λ (l : List ℕ). frame ++ l) (sym (take-append-drop missing left));
      gap_size = elim (cases_lt (length left) missing) [
        | inl short ↦ inr (
          subst (λ (l : List ℕ). length l < missing) (sym (take_all missing left (omega (arith, short)))) short,
          drop_all missing left (omega (arith, short)),
        )
        | inr full ↦ inl (length-take-le missing left full)
      ];
    }

pub is_message : (check : Check) (now : Option (List ℕ)) (at : ℕ) (frame words : List ℕ) → IsWholeFrame frame
    → length frame ≤ longest → IsWords (meaning frame) words
    → IsOne (messages_of check) now at frame (padding (length frame)) (record { at = at; frame = frame; words = words })
is_message check now at frame words whole most is end bytes after known same place =
    record { starts = starts_whole bytes frame after same whole; most = most; place = place; words = is }

-- a packet has no padding
pub is_packet : (check : Check) (order : Order) (nano : Bool) (now : Option (List ℕ)) (at : ℕ) (packet : List ℕ) (shown : Stamped)
    → IsWholePacket order packet → captured_of order packet ≤ longest → shown.time ≡ pcap_time order nano packet
    → HasExtent at (extent_of order packet) packet shown.packet → IsOne (packets_of check order nano) now at packet 0 shown
is_packet check order nano now at packet shown whole most timely has end bytes after known same place = record {
  packet = packet;
  size = whole;
  whole = same;
  most = most;
  time = timely;
  content = subst (λ (n : ℕ). HasExtent n (extent_of order packet) packet shown.packet) place has;
}

-- ---- what a run showed when it ends

pub ends_here : {A : Type 0} (f : Format A) (base : ℕ) (old now : Option (List ℕ)) (done : List A) (at : ℕ)
    → PassedKnown f base old done now 0 at → IsAtEnd now
    → IfSome old (λ input. ShowsAll f (base + length input) input done None)
ends_here f base None now done at passed end = tt
ends_here f base (Some input) None done at passed end = absurd passed
ends_here f base (Some input) (Some rest) done at (passed, place) end =
    passed_ends (f.starts (base + length input)) (f.stops (base + length input)) input done rest passed end

-- what is left starts at this offset with nothing that can be read, for this cause
abbrev pub StopsAt : {A : Type 0} → Format A → ℕ → Cause → List ℕ → Type 0
StopsAt f at cause rest =
    (rest ≢ []) × ((end : ℕ) → at + length rest ≡ end → f.stops end rest (record { at = at; cause = cause }))

pub frame_stop : (check : Check) (at : ℕ) (cause : Cause) (now : Option (List ℕ))
    → IfSome now (λ rest. (rest ≢ []) × IsCause rest cause) → IfSome now (StopsAt (messages_of check) at cause)
frame_stop check at cause None is = tt
frame_stop check at cause (Some rest) (some, is) = (some, λ end place. record { place = place; cause = is })

pub stops_here : {A : Type 0} (f : Format A) (base : ℕ) (old now : Option (List ℕ)) (done : List A) (at : ℕ) (cause : Cause)
    → PassedKnown f base old done now 0 at → IfSome now (StopsAt f at cause)
    → IfSome old (λ input. ShowsAll f (base + length input) input done (Some (record { at = at; cause = cause })))
stops_here f base None now done at cause passed is = tt
stops_here f base (Some input) None done at cause passed is = absurd passed
stops_here f base (Some input) (Some rest) done at cause (passed, place) is =
    passed_faults (f.starts (base + length input)) (f.stops (base + length input)) input done rest
    (record { at = at; cause = cause }) passed is.0 (is.1 (base + length input) place)

-- what is left is the end of the input
passed_end : (order : Order) (nano : Bool) (end : ℕ) (input : List ℕ) (done : List Stamped) (rest : List ℕ)
    → Passed (StartsPacket order nano end) input done rest → (front : List ℕ) × (input ≡ front ++ rest)
passed_end order nano end input done rest passed =
    passed_keeps (StartsPacket order nano end) (λ (l : List ℕ). (front : List ℕ) × (input ≡ front ++ l))
    (λ bytes one after starts ends. (
      ends.0 ++ starts.packet,
      ends.1 ∙ ap (λ (l : List ℕ). ends.0 ++ l) starts.whole ∙ sym (append_assoc ends.0 starts.packet after),
    )) input done rest passed ([], refl)

-- the packets stop there, and this is shown of the bytes that are left, which the reader gave
pub stops_torn : (check : Check) (order : Order) (nano : Bool) (base : ℕ) (input rest : List ℕ) (done : List Stamped) (at : ℕ) (why : PcapFault)
    (kept : List ℕ) (shown : Stamped) → PassedKnown (packets_of check order nano) base (Some input) done (Some rest) 0 at
    → (rest ≢ []) × IsPacketFault order rest why → torn_of why kept ≡ torn_of why rest → shown.time ≡ pcap_time order nano (torn_of why kept)
    → IsTorn at (torn_of why kept) shown.packet
    → StopsAs (packets_of check order nano) (base + length input) input (done ++ (shown ∷ [])) (record { at = at; cause = Pcap why })
stops_torn check order nano base input rest done at why kept shown (passed, place) (some, is) same timely torn =
    let (front, whole) = passed_end order nano (base + length input) input done rest passed in
    let long : length input ≡ length front + length rest = ap length whole ∙ length-append front rest in
    let size : length front ≡ at - (base + length input - length input) = omega (arith, long, place) in
    let left : drop (at - (base + length input - length input)) input ≡ rest =
    ap (drop (at - (base + length input - length input))) whole ∙ drop_at front rest (at - (base + length input - length input)) size in (
      done,
      shown ∷ [],
      refl,
      stops_here (packets_of check order nano) base (Some input) (Some rest) done at (Pcap why) (passed, place)
          (some, λ end there. record { place = there; cause = is }),
      (
        shown,
        refl,
        timely ∙ ap (pcap_time order nano) (same ∙ ap (torn_of why) (sym left)),
        subst (λ (l : List ℕ). IsTorn at l shown.packet) (same ∙ ap (torn_of why) (sym left)) torn,
      ),
    )

pub first_shown : {A : Type 0} (f : Format A) (base : ℕ) (old now : Option (List ℕ)) (done : List A) (missing at : ℕ)
    → PassedKnown f base old done now missing at → IfSome old (λ input. ShowsFirst f (base + length input) input done)
first_shown f base None now done missing at passed = tt
first_shown f base (Some input) None done missing at passed = absurd passed
first_shown f base (Some input) (Some left) done missing at (passed, place) = inl (drop missing left, passed)

-- the bytes of a reader, if they are known
abbrev pub known : Option (List ℕ) → List ℕ
known None = []
known (Some bytes) = bytes

-- the reader gave bytes that hold none: `Tries` and `TriesPacket`
abbrev pub TriesOne : {A : Type 0} → Format A → Option (List ℕ) → Option (List ℕ) → Type 0
TriesOne f old new = (front : List ℕ) × Consumes old new front × (f.holds (known old) front → ⊥)

pub none_lost : {A : Type 0} (f : Format A) (base : ℕ) (old now new : Option (List ℕ)) (done : List A) (at : ℕ)
    → PassedKnown f base old done now 0 at → TriesOne f now new
    → IfSome old (λ input. NoneLost f (base + length input) input done new)
none_lost f base None now new done at passed tries = tt
none_lost f base (Some input) None new done at passed tries = absurd passed
none_lost f base (Some input) (Some rest) None done at passed (front, took, torn) = absurd took
none_lost f base (Some input) (Some rest) (Some left) done at (passed, place) (front, took, torn) =
    let long : length rest ≡ length front + length left = ap length took ∙ length-append front left in
    let read : take (length rest - length left) rest ≡ front =
    ap (λ (l : List ℕ). take (length rest - length left) l) took
    ∙ take_at front left (length rest - length left) (omega (arith, long)) in
    (rest, passed, λ holds. torn (subst (f.holds rest) read holds))

-- the reader failed in the padding after a frame
pub none_lost_between : (check : Check) (base : ℕ) (old now new : Option (List ℕ)) (done : List Seen) (missing at : ℕ)
    → PassedKnown (messages_of check) base old done now missing at → SkipsPart now new missing
    → IfSome old (λ input. NoneLost (messages_of check) (base + length input) input done new)
none_lost_between check base None now new done missing at passed part = tt
none_lost_between check base (Some input) None new done missing at passed part = absurd passed
none_lost_between check base (Some input) (Some rest) None done missing at passed (front, took, few) = absurd took
none_lost_between check base (Some input) (Some rest) (Some left) done missing at (passed, place) (front, took, few) =
    let long : length rest ≡ length front + length left = ap length took ∙ length-append front left in
    let later : length (drop missing rest) ≡ length rest - missing = length-drop missing rest in
    let none : length (drop missing rest) - length left ≡ 0 = omega (arith, long, later, few) in (
      drop missing rest,
      passed,
      λ holds.
          no_header (take (length (drop missing rest) - length left) (drop missing rest))
          (subst (λ (n : ℕ). length (take n (drop missing rest)) < 16) (sym none) (omega arith)) holds,
    )

-- ---- what a run wrote

pub told_push : {A : Type 0} (f : Format A) (memory : Memory) (done : List A) (one : A)
    → told_from f memory (done ++ (one ∷ [])) ≡ tell f (told_from f memory done) one
told_push f memory done one = fold-append (tell f) (told_nothing memory) done (one ∷ [])
