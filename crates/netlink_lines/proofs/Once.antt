-- Bytes show one list of messages and end in one way.
use Rattle.std.proofs.Common.{◌≡◌, ◌∙◌, ap, arith, refl, sym, subst, ℕ, List, [], Option}
use Rattle.std.specs.Prelude.{true, false}
use Rattle.netlink_packet_core.specs.DecodeError.{DecodeError}
use Rattle.netlink_packet_core.specs.DecodeError.TheVariants.{FrameShort, FrameCut, FrameLength}
use Rattle.netlink_packet_core.specs.FrameStartLaws.{no_frame_starts, starts_frame-fault, starts_frame-field}
use Rattle.netlink_packet_core.specs.FrameWalkLaws.{starts_frame_once}
use Rattle.netlink_packet_core.specs.Refusal.{IsFrameFault}
use Rattle.netlink_packet_core.specs.Walks.{StepLaws, walks_once}
use Rattle.netlink_replies.specs.Meaning.{meaning}
use Rattle.netlink_lines.specs.Ack.{IsWords}
use Rattle.netlink_lines.specs.Messages.{Seen}
use Rattle.netlink_lines.specs.Stream.{ShowsMessages, StartsSeen}
use Rattle.netlink_input.specs.Stream.{IsCause, IsStop}
use Rattle.netlink_lines.proofs.Words.{words_once}
use Rattle.netlink_input.specs.declared.stream.Cause.{Cause}
use Rattle.netlink_input.specs.declared.stream.Cause.TheVariants.{Damaged, TooLong, Pcap}
use Rattle.netlink_input.specs.declared.stream.Stop.{Stop}

-- ---- bytes start with one message

seen_once : (a b : Seen) → a.at ≡ b.at → a.frame ≡ b.frame → a.words ≡ b.words → a ≡ b
seen_once a b at frame words =
    ap (λ (n : ℕ). record { at = n; frame = a.frame; words = a.words }) at
    ∙ ap (λ (f : List ℕ). record { at = b.at; frame = f; words = a.words }) frame
    ∙ ap (λ (w : List ℕ). record { at = b.at; frame = b.frame; words = w }) words

step_once : (end : ℕ) (bytes : List ℕ) (a b : Seen) (rest other : List ℕ) → StartsSeen end bytes a rest
    → StartsSeen end bytes b other → (a ≡ b) × (rest ≡ other)
step_once end bytes a b rest other first second =
    let same = starts_frame_once bytes a.frame b.frame rest other first.starts second.starts in (
      seen_once a b (first.place ∙ sym second.place) same.0
          (words_once (meaning b.frame) a.words b.words
          (subst (λ (f : List ℕ). IsWords (meaning f) a.words) same.0 first.words) second.words),
      same.1,
    )

-- ---- bytes have one cause to stop, or none

without : (bytes : List ℕ) (e : DecodeError) → IsFrameFault true bytes e → (f : DecodeError) × IsFrameFault false bytes f
without bytes (FrameShort size within) is = (FrameShort size false, (is.0, is.1, refl))
without bytes (FrameCut said size within) is = (FrameCut said size false, (is.0, is.1, is.2, is.3, refl))
without bytes (FrameLength said within) is = (FrameLength said false, (is.0, is.1, is.2, refl))
without bytes _ is = absurd is

no_cause_of : (end : ℕ) (bytes : List ℕ) (seen : Seen) (rest : List ℕ) (cause : Cause)
    → StartsSeen end bytes seen rest → IsCause bytes cause → ⊥
no_cause_of end bytes seen rest (Damaged error) starts (is, most) =
    let fault = without bytes error is in
    starts_frame-fault bytes seen.frame rest fault.0 starts.starts fault.1
no_cause_of end bytes seen rest (TooLong said) starts (long, is, high) =
    omega (arith, is, high, starts.most, starts_frame-field bytes seen.frame rest starts.starts)
no_cause_of end bytes seen rest (Pcap why) starts is = absurd is

no_cause : (end : ℕ) (bytes : List ℕ) (seen : Seen) (rest : List ℕ) (stop : Stop)
    → StartsSeen end bytes seen rest → IsStop end bytes stop → ⊥
no_cause end bytes seen rest stop starts is =
    no_cause_of end bytes seen rest stop.cause starts is.cause

fault_once : (bytes : List ℕ) (e f : DecodeError) → IsFrameFault true bytes e → IsFrameFault true bytes f → e ≡ f
fault_once bytes (FrameShort m i) (FrameShort n j) p q = cc
fault_once bytes (FrameShort m i) (FrameCut n k j) p q = absurd (omega arith)
fault_once bytes (FrameShort m i) (FrameLength n j) p q = absurd (omega arith)
fault_once bytes (FrameCut m l i) (FrameShort n j) p q = absurd (omega arith)
fault_once bytes (FrameCut m l i) (FrameCut n k j) p q = cc
fault_once bytes (FrameCut m l i) (FrameLength n j) p q = absurd (omega arith)
fault_once bytes (FrameLength m i) (FrameShort n j) p q = absurd (omega arith)
fault_once bytes (FrameLength m i) (FrameCut n k j) p q = absurd (omega arith)
fault_once bytes (FrameLength m i) (FrameLength n j) p q = cc
fault_once bytes (FrameShort m i) _ p q = absurd q
fault_once bytes (FrameCut m l i) _ p q = absurd q
fault_once bytes (FrameLength m i) _ p q = absurd q
fault_once bytes _ g p q = absurd p

-- no damaged frame has a length field that is too large
not_both : (bytes : List ℕ) (e : DecodeError) (said : ℕ) → IsCause bytes (Damaged e) → IsCause bytes (TooLong said) → ⊥
not_both bytes e said (is, most) (long, that, high) = omega (arith, most long, that, high)

cause_once : (bytes : List ℕ) (r s : Cause) → IsCause bytes r → IsCause bytes s → r ≡ s
cause_once bytes (Damaged e) (Damaged f) p q = ap Damaged (fault_once bytes e f p.0 q.0)
cause_once bytes (Damaged e) (TooLong n) p q = absurd (not_both bytes e n p q)
cause_once bytes (TooLong n) (Damaged f) p q = absurd (not_both bytes f n q p)
cause_once bytes (TooLong m) (TooLong n) p q = ap TooLong (p.1 ∙ sym q.1)
cause_once bytes (Pcap why) s p q = absurd p
cause_once bytes r (Pcap why) p q = absurd q

stop_once : (end : ℕ) (bytes : List ℕ) (r s : Stop) → IsStop end bytes r → IsStop end bytes s → r ≡ s
stop_once end bytes r s first second =
    let at : r.at ≡ s.at = omega (arith, first.place, second.place) in
    let cause : r.cause ≡ s.cause = cause_once bytes r.cause s.cause first.cause second.cause in
    let moved : r ≡ record { at = s.at; cause = r.cause } = ap (λ (n : ℕ). record { at = n; cause = r.cause }) at in
    moved ∙ ap (λ (c : Cause). record { at = s.at; cause = c }) cause

-- ---- bytes show one list

nothing_starts : (end : ℕ) (bytes : List ℕ) (seen : Seen) (rest : List ℕ) → bytes ≡ []
    → StartsSeen end bytes seen rest → ⊥
nothing_starts end bytes seen rest none starts = no_frame_starts bytes seen.frame rest none starts.starts

pub step_laws : (end : ℕ) → StepLaws (StartsSeen end) (IsStop end)
step_laws end = record {
  once = step_once end;
  nothing = nothing_starts end;
  fault = λ bytes seen rest stop. no_cause end bytes seen rest stop;
  fault_once = stop_once end;
}

pub messages_once : (end : ℕ) (bytes : List ℕ) (all more : List Seen) (s t : Option Stop) → ShowsMessages end bytes all s
    → ShowsMessages end bytes more t → (all ≡ more) × (s ≡ t)
messages_once end = walks_once (step_laws end)
