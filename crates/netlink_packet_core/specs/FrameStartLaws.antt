-- Facts about bytes that start with a frame.
use Rattle.std.proofs.Common.{◌≡◌, ℕ, ◌+◌, ◌-◌, ◌%◌, ◌<◌, ◌≤◌, ◌⊎◌, min, List, [], ◌++◌, length, take, drop, refl, ap, sym, ◌∙◌, inl, inr, arith, append_assoc, length-append, length-drop}
use Rattle.std.proofs.lemmas.List.{take-append-drop, take-append-le, length-take, length-take-le, take_at, drop_at, drop_all, drop-drop}
use Rattle.std.proofs.lemmas.Bool.{cases_lt}
use Rattle.std.specs.Prelude.{false}
use Rattle.netlink_attributes.specs.Attribute.{padding}
use Rattle.netlink_bytes.specs.Numbers.{number_le}
use Rattle.netlink_bytes.specs.declared.error.DecodeError.{DecodeError}
use Rattle.netlink_bytes.specs.declared.error.DecodeError.TheVariants.{FrameShort, FrameCut, FrameLength}
use Rattle.netlink_packet_core.specs.Header.{field, HoldsFrame}
use Rattle.netlink_packet_core.specs.Refusal.{IsFrameFault}
use Rattle.netlink_packet_core.specs.FrameWalk.{StartsFrame, frame_of}

-- the length field is within the frame
field-append : (frame rest : List ℕ) → 4 ≤ length frame
    → field 0 4 (frame ++ rest) ≡ field 0 4 frame
field-append frame rest long = ap number_le (take-append-le 4 frame rest long)

-- the length field of the bytes is the size of the frame
pub starts_frame-field : (bytes frame rest : List ℕ) → StartsFrame bytes frame rest
    → field 0 4 bytes ≡ length frame
starts_frame-field bytes frame rest starts =
    let least = starts.least in
    ap (field 0 4) starts.whole ∙ field-append frame (starts.gap ++ rest) (omega arith)
    ∙ starts.size

pub starts_frame-frame_of : (bytes frame rest : List ℕ) → StartsFrame bytes frame rest
    → frame_of bytes ≡ frame
starts_frame-frame_of bytes frame rest starts =
    ap (λ (n : ℕ). take n bytes) (starts_frame-field bytes frame rest starts)
    ∙ ap (take (length frame)) starts.whole
    ∙ take_at frame (starts.gap ++ rest) (length frame) refl

pub starts_frame-length : (bytes frame rest : List ℕ) → (starts : StartsFrame bytes frame rest)
    → length bytes ≡ length frame + (length starts.gap + length rest)
starts_frame-length bytes frame rest starts =
    let whole = length-append frame (starts.gap ++ rest) in
    let behind = length-append starts.gap rest in
    ap length starts.whole ∙ omega arith

-- the rest follows the frame and all of its padding
pub starts_frame-rest : (bytes frame rest : List ℕ) → StartsFrame bytes frame rest
    → rest ≡ drop (length frame + padding (length frame)) bytes
starts_frame-rest bytes frame rest starts =
    let end : ℕ = length frame + padding (length frame) in
    let front = length-append frame starts.gap in
    let size = starts_frame-length bytes frame rest starts in
    elim starts.gap_size [
      | inl full ↦ sym (ap (drop end) (starts.whole ∙ sym (append_assoc frame starts.gap rest))
          ∙ drop_at (frame ++ starts.gap) rest end (omega arith))
      | inr short ↦ (let none : length rest ≡ 0 = ap length short.1 in
          short.1 ∙ sym (drop_all end bytes (omega arith)))
    ]

pub no_frame_starts : (bytes frame rest : List ℕ) → bytes ≡ [] → StartsFrame bytes frame rest → ⊥
no_frame_starts bytes frame rest none starts =
    omega (arith, starts.least, starts_frame-length bytes frame rest starts, ap length none)

-- bytes that start with a frame have no error
pub starts_frame-fault : (bytes frame rest : List ℕ) (fault : DecodeError)
    → StartsFrame bytes frame rest → IsFrameFault false bytes fault → ⊥
starts_frame-fault bytes frame rest (FrameShort size inside) starts is =
    omega (arith, is.0, starts.least, starts_frame-length bytes frame rest starts)
starts_frame-fault bytes frame rest (FrameCut said size inside) starts is =
    omega (
      arith,
      is.1,
      starts_frame-length bytes frame rest starts,
      starts_frame-field bytes frame
          rest starts,
    )
starts_frame-fault bytes frame rest (FrameLength said inside) starts is =
    omega (arith, is.1, starts.least, starts_frame-field bytes frame rest starts)
starts_frame-fault bytes frame rest _ starts is = is

-- and bytes have at most one error
pub frame_fault_once : (bytes : List ℕ) (f g : DecodeError) → IsFrameFault false bytes f
    → IsFrameFault false bytes g → f ≡ g
frame_fault_once bytes (FrameShort m i) (FrameShort n j) p q = cc
frame_fault_once bytes (FrameShort m i) (FrameCut n k j) p q = absurd (omega arith)
frame_fault_once bytes (FrameShort m i) (FrameLength n j) p q = absurd (omega arith)
frame_fault_once bytes (FrameCut m l i) (FrameShort n j) p q = absurd (omega arith)
frame_fault_once bytes (FrameCut m l i) (FrameCut n k j) p q = cc
frame_fault_once bytes (FrameCut m l i) (FrameLength n j) p q = absurd (omega arith)
frame_fault_once bytes (FrameLength m i) (FrameShort n j) p q = absurd (omega arith)
frame_fault_once bytes (FrameLength m i) (FrameCut n k j) p q = absurd (omega arith)
frame_fault_once bytes (FrameLength m i) (FrameLength n j) p q = cc
frame_fault_once bytes (FrameShort m i) _ p q = absurd q
frame_fault_once bytes (FrameCut m l i) _ p q = absurd q
frame_fault_once bytes (FrameLength m i) _ p q = absurd q
frame_fault_once bytes _ g p q = absurd p

-- ---- bytes that hold a frame

-- a list is a part, a gap up to a later offset, and the rest
part_and_rest : (start end : ℕ) (bytes : List ℕ) → start ≤ end
    → bytes ≡ take start bytes ++ (take (end - start) (drop start bytes) ++ drop end bytes)
part_and_rest start end bytes order =
    let whole : start + (end - start) ≡ end = omega arith in
    let last : drop (end - start) (drop start bytes) ≡ drop end bytes =
    drop-drop (end - start) start bytes ∙ ap (λ (k : ℕ). drop k bytes) whole in
    let behind : drop start bytes ≡ take (end - start) (drop start bytes) ++ drop end bytes =
    sym (take-append-drop (end - start) (drop start bytes))
    ∙ ap (λ (rest : List ℕ). take (end - start) (drop start bytes) ++ rest) last in
    sym (take-append-drop start bytes) ∙ ap (λ (rest : List ℕ). take start bytes ++ rest) behind

-- the gap up to the next multiple of 4, or up to the end of the bytes
gap_sizes : (field end size : ℕ) → field ≤ size → field ≤ end → end < field + 4 → end % 4 ≡ 0
    → (min (end - field) (size - field) ≡ padding field)
    ⊎ ((min (end - field) (size - field) < padding field) × (size ≤ end))
gap_sizes field end size most low high multiple =
    elim (cases_lt size end)
    [ inl short ↦ inr (omega arith, omega arith) | inr full ↦ inl (omega arith) ]

pub length-frame_of : (bytes : List ℕ) → HoldsFrame bytes
    → length (frame_of bytes) ≡ field 0 4 bytes
length-frame_of bytes holds = length-take-le (field 0 4 bytes) bytes holds.most

-- the length field of the frame is its size
pub field-frame_of : (bytes : List ℕ) → HoldsFrame bytes
    → field 0 4 (frame_of bytes) ≡ length (frame_of bytes)
field-frame_of bytes holds =
    let size = length-frame_of bytes holds in
    let least = holds.least in
    sym (field-append (frame_of bytes) (drop (field 0 4 bytes) bytes) (omega arith))
    ∙ ap (field 0 4) (take-append-drop (field 0 4 bytes) bytes)
    ∙ sym size

-- bytes that hold a frame start with it, and the rest begins at the next multiple of 4
pub starts_frame_held : (bytes : List ℕ) (end : ℕ) → HoldsFrame bytes → field 0 4 bytes ≤ end
    → end < field 0 4 bytes + 4 → end % 4 ≡ 0
    → StartsFrame bytes (frame_of bytes) (drop end bytes)
starts_frame_held bytes end holds low high multiple =
    let said : ℕ = field 0 4 bytes in
    let size : length (frame_of bytes) ≡ said = length-frame_of bytes holds in
    let gap : List ℕ = take (end - said) (drop said bytes) in
    let taken : length gap ≡ min (end - said) (length bytes - said) =
    length-take (end - said) (drop said bytes)
    ∙ ap (min (end - said)) (length-drop said bytes) in
    record {
      size = field-frame_of bytes holds;
      least = omega (arith, holds.least, size);
      gap = gap;
      whole = part_and_rest said end bytes low;
      gap_size = elim (gap_sizes said end (length bytes) holds.most low high multiple) [
        | inl full ↦ inl (taken ∙ full ∙ ap padding (sym size))
        | inr short ↦ inr (rw (taken, size) short.0, drop_all end bytes short.1)
      ];
    }

-- a frame that bytes start with is complete
pub starts_frame-holds : (bytes frame rest : List ℕ) → StartsFrame bytes frame rest
    → HoldsFrame frame
starts_frame-holds bytes frame rest starts =
    let size = starts.size in
    let least = starts.least in
    record { header = least; least = omega arith; most = omega arith }
