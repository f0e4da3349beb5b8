-- Every byte list is frames in exactly one way, and walking encoded frames yields them.
use Rattle.std.proofs.Common.{◌≡◌, ◌≢◌, ℕ, zero, suc, ◌+◌, ◌-◌, ◌*◌, ◌/◌, ◌%◌, ◌<◌, ◌^◌, List, [], ◌∷◌, ◌++◌, length, drop, refl, ap, sym, subst, ◌∙◌, inl, inr, arith, Option, None, All, append_assoc, append-nil, length-append, length-drop}
use Rattle.std.proofs.lemmas.Bool.{cases_lt}
use Rattle.std.proofs.lemmas.List.{length-replicate}
use Rattle.std.specs.Prelude.{false, replicate}
use Rattle.netlink_attributes.specs.Attribute.{padding}
use Rattle.netlink_bytes.specs.Numbers.{bytes_le}
use Rattle.netlink_bytes.specs.NumberLaws.{number_le-bytes_le}
use Rattle.netlink_bytes.specs.Walks.{NextStep, StepLaws, has_one, walks_join, walks_once}
use Rattle.netlink_bytes.specs.declared.error.DecodeError.{DecodeError}
use Rattle.netlink_bytes.specs.declared.error.DecodeError.TheVariants.{FrameShort, FrameCut, FrameLength}
use Rattle.netlink_packet_core.specs.Canonical.{Fits, IsCanonicalFrame, canonical_frame, finalized}
use Rattle.netlink_packet_core.specs.FrameStartLaws.{starts_frame-frame_of, starts_frame-length, starts_frame-rest, starts_frame-fault, starts_frame_held, starts_frame-holds, no_frame_starts, frame_fault_once}
use Rattle.netlink_packet_core.specs.FrameWalk.{FrameWalk, IsWholeFrame, StartsFrame, datagram_of, frame_of, padded_frame}
use Rattle.netlink_packet_core.specs.Header.{field, header_bytes, HoldsFrame}
use Rattle.netlink_packet_core.specs.Payload.{payload_bytes}
use Rattle.netlink_packet_core.specs.Protocol.{Decoding, Encoding}
use Rattle.netlink_packet_core.specs.Refusal.{IsFrameFault}
use Rattle.netlink_packet_core.specs.Sizes.{length-header_and}
use Rattle.netlink_packet_core.specs.declared.header.NetlinkHeader.{NetlinkHeader}
use Rattle.netlink_packet_core.specs.declared.message.NetlinkMessage.{NetlinkMessage}

-- ---- at most one walk

-- bytes start with at most one frame and one rest
pub starts_frame_once : (bytes frame other : List ℕ) (rest behind : List ℕ)
    → StartsFrame bytes frame rest → StartsFrame bytes other behind
    → (frame ≡ other) × (rest ≡ behind)
starts_frame_once bytes frame other rest behind starts begins =
    let same : frame ≡ other =
    sym (starts_frame-frame_of bytes frame rest starts)
    ∙ starts_frame-frame_of bytes other behind begins in (
      same,
      starts_frame-rest bytes frame rest starts
          ∙ ap (λ (c : List ℕ). drop (length c + padding (length c)) bytes) same
          ∙ sym (starts_frame-rest bytes other behind begins),
    )

-- what a walk requires of its steps
pub frame_steps_laws : StepLaws StartsFrame (IsFrameFault false)
frame_steps_laws = record {
  once = starts_frame_once;
  nothing = no_frame_starts;
  fault = starts_frame-fault;
  fault_once = frame_fault_once;
}

pub frames_once : (bytes : List ℕ) (x y : List (List ℕ)) (f g : Option DecodeError)
    → FrameWalk bytes x f → FrameWalk bytes y g → (x ≡ y) × (f ≡ g)
frames_once = walks_once frame_steps_laws

-- ---- every byte list has a walk

abbrev Anything : List ℕ → Type 0
Anything bytes = Unit {0}

pub next_frame : (bytes : List ℕ) → Anything bytes → bytes ≢ []
    → NextStep StartsFrame (IsFrameFault false) Anything bytes
next_frame bytes any some =
    let said : ℕ = field 0 4 bytes in
    elim (cases_lt (length bytes) 16) [
      | inl short ↦ inl (FrameShort (length bytes) false, (short, refl, refl))
      | inr header ↦ elim (cases_lt (length bytes) said) [
        | inl long ↦ inl (FrameCut said (length bytes) false, (header, long, refl, refl, refl))
        | inr most ↦ elim (cases_lt said 16) [
          | inl low ↦ inl (FrameLength said false, (header, low, refl, refl))
          | inr least ↦
              let end : ℕ = (said + 3) / 4 * 4 in
              let left : length (drop end bytes) ≡ length bytes - end = length-drop end bytes in
              let holds : HoldsFrame bytes =
              record { header = header; least = least; most = most } in
              inr (
                frame_of bytes,
                drop end bytes,
                starts_frame_held bytes end holds (omega arith)
                    (omega arith) (omega arith),
                tt,
                omega arith,
              )
        ]
      ]
    ]

pub has_frames : (bytes : List ℕ)
    → (all : List (List ℕ)) × (fault : Option DecodeError) × FrameWalk bytes all fault
has_frames bytes = has_one StartsFrame (IsFrameFault false) Anything next_frame bytes tt

-- ---- each frame of a walk

pub starts_frame-whole : (bytes frame rest : List ℕ) → StartsFrame bytes frame rest
    → IsWholeFrame frame
starts_frame-whole bytes frame rest starts = record { size = starts.size; least = starts.least }

-- each frame of a walk is one frame and nothing else
pub each_whole : (bytes : List ℕ) (all : List (List ℕ)) (fault : Option DecodeError)
    → FrameWalk bytes all fault → All IsWholeFrame all
each_whole bytes [] fault walk k d inside = absurd (omega arith)
each_whole bytes (f ∷ more) fault (rest, starts, walk) zero d inside =
    starts_frame-whole bytes f rest starts
each_whole bytes (f ∷ more) fault (rest, starts, walk) (suc k) d inside =
    each_whole rest more fault walk k d (omega arith)

pub each_holds : (bytes : List ℕ) (all : List (List ℕ)) (fault : Option DecodeError)
    → FrameWalk bytes all fault → All HoldsFrame all
each_holds bytes [] fault walk k d inside = absurd (omega arith)
each_holds bytes (f ∷ more) fault (rest, starts, walk) zero d inside =
    starts_frame-holds bytes f rest starts
each_holds bytes (f ∷ more) fault (rest, starts, walk) (suc k) d inside =
    each_holds rest more fault walk k d (omega arith)

-- ---- what is written

-- a canonical frame is one frame and nothing else
pub canonical_whole : {I : Type 0} (decoding : Decoding I) (bytes : List ℕ)
    → IsCanonicalFrame decoding bytes → IsWholeFrame bytes
canonical_whole decoding bytes canonical =
    record { size = canonical.whole; least = canonical.header }

length-said : (h : NetlinkHeader) (more : List ℕ) → h.length < 2 ^ 32
    → field 0 4 (header_bytes h ++ more) ≡ h.length
unfolding bytes_le
length-said h more fits = number_le-bytes_le h.length 4 fits

-- and so is the encoding of a message that fits
pub message_whole : {I : Type 0} (encoding : Encoding I) (m : NetlinkMessage I) → Fits encoding m
    → IsWholeFrame (canonical_frame encoding m)
message_whole encoding m fits =
    let text : List ℕ = payload_bytes encoding m.payload in
    let h : NetlinkHeader = (finalized encoding m).header in
    let size : length (canonical_frame encoding m) ≡ 16 + length text = length-header_and h text in
    record { size = length-said h text fits.size ∙ sym size; least = omega (arith, size) }

-- bytes that are a padded frame and then a rest start with the frame
pub starts_padded_frame : (frame rest : List ℕ) → IsWholeFrame frame
    → StartsFrame (padded_frame frame ++ rest) frame rest
starts_padded_frame frame rest is = record {
  size = is.size;
  least = is.least;
  gap = replicate (padding (length frame)) 0;
  whole = append_assoc frame (replicate (padding (length frame)) 0) rest;
  gap_size = inl (length-replicate (padding (length frame)) 0);
}

-- walking encoded frames yields them
pub written_frames_walk : (all : List (List ℕ)) → All IsWholeFrame all
    → FrameWalk (datagram_of all) all None
written_frames_walk [] each = refl
written_frames_walk (frame ∷ more) each = (
  datagram_of more,
  starts_padded_frame frame (datagram_of more) (each 0 frame (omega arith)),
  written_frames_walk more (λ k d inside. each (suc k) d (omega arith)),
)

-- and nothing else
pub written_frames_once : (all found : List (List ℕ)) (fault : Option DecodeError)
    → All IsWholeFrame all → FrameWalk (datagram_of all) found fault
    → (found ≡ all) × (fault ≡ None)
written_frames_once all found fault each walk =
    frames_once (datagram_of all) found all fault None walk (written_frames_walk all each)

-- one more frame is written after the others
pub datagram_push : (done : List (List ℕ)) (frame : List ℕ)
    → datagram_of (done ++ (frame ∷ [])) ≡ datagram_of done ++ padded_frame frame
datagram_push [] frame = append-nil (padded_frame frame)
datagram_push (first ∷ done) frame =
    ap (λ x. padded_frame first ++ x) (datagram_push done frame)
    ∙ sym (append_assoc (padded_frame first) (datagram_of done) (padded_frame frame))

-- one frame with its padding
pub one_frame : (frame : List ℕ) → IsWholeFrame frame
    → FrameWalk (padded_frame frame) (frame ∷ []) None
one_frame frame is =
    subst (λ (b : List ℕ). FrameWalk b (frame ∷ []) None) (append-nil (padded_frame frame))
    ([], starts_padded_frame frame [] is, refl)

-- ---- concatenated datagrams

-- the size is a multiple of 4, so no padding is missing
abbrev pub IsAligned : List ℕ → Type 0
IsAligned bytes = length bytes % 4 ≡ 0

aligned_join : (bytes frame rest after : List ℕ) → IsAligned bytes → StartsFrame bytes frame rest
    → StartsFrame (bytes ++ after) frame (rest ++ after) × IsAligned rest
aligned_join bytes frame rest after aligned starts =
    let size = starts_frame-length bytes frame rest starts in
    let sizes : (length starts.gap ≡ padding (length frame)) × IsAligned rest =
    elim starts.gap_size [
      | inl full ↦ (full, omega arith)
      | inr short ↦ (let none : length rest ≡ 0 = ap length short.1 in absurd (omega arith))
    ] in (
      record {
        size = starts.size;
        least = starts.least;
        gap = starts.gap;
        whole =
            ap (λ (front : List ℕ). front ++ after) starts.whole
            ∙ append_assoc frame (starts.gap ++ rest) after
            ∙ ap (λ (x : List ℕ). frame ++ x) (append_assoc starts.gap rest after);
        gap_size = inl sizes.0;
      },
      sizes.1,
    )

-- bytes after such a datagram are walked as they are alone
pub frames_join : (bytes : List ℕ) (all : List (List ℕ)) (after : List ℕ) (more : List (List ℕ))
    (fault : Option DecodeError)
    → IsAligned bytes → FrameWalk bytes all None → FrameWalk after more fault
    → FrameWalk (bytes ++ after) (all ++ more) fault
frames_join = walks_join StartsFrame (IsFrameFault false) IsAligned aligned_join

-- one more frame
pub frame_pushed : (bytes : List ℕ) (all : List (List ℕ)) (frame : List ℕ) → IsAligned bytes
    → IsWholeFrame frame → FrameWalk bytes all None
    → FrameWalk (bytes ++ padded_frame frame) (all ++ (frame ∷ [])) None
frame_pushed bytes all frame aligned is walk =
    frames_join bytes all (padded_frame frame) (frame ∷ []) None aligned walk (one_frame frame is)

-- the size of a padded frame is a multiple of 4
pub padded_aligned : (frame : List ℕ) → IsAligned (padded_frame frame)
padded_aligned frame =
    let missing : ℕ = padding (length frame) in
    let zeros : List ℕ = replicate missing 0 in
    let size : length zeros ≡ missing = length-replicate missing 0 in
    let whole : length (padded_frame frame) ≡ length frame + length zeros =
    length-append frame zeros in
    omega (arith, size, whole)

-- and so is that of encoded frames
pub datagram_aligned : (all : List (List ℕ)) → IsAligned (datagram_of all)
datagram_aligned [] = refl
datagram_aligned (frame ∷ more) =
    let first : length (padded_frame frame) % 4 ≡ 0 = padded_aligned frame in
    let later : length (datagram_of more) % 4 ≡ 0 = datagram_aligned more in
    let whole = length-append (padded_frame frame) (datagram_of more) in
    omega (arith, first, later, whole)
