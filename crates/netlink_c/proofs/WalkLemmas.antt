-- Where the attributes of a block and the frames of a datagram are.
use Rattle.std.proofs.Common.{◌≡◌, ℕ, ◌+◌, ◌-◌, ◌<◌, ◌≤◌, List, ◌++◌, length, take, drop, slice_index, refl, ap, sym, subst, ◌∙◌, arith, length-drop}
use Rattle.std.proofs.lemmas.List.{take_at, drop-drop, length-take-le}
use Rattle.std.specs.Prelude.{slice_range}
use Rattle.netlink_packet_core.specs.Attribute.{Attribute, padding}
use Rattle.netlink_packet_core.specs.FrameStartLaws.{length-frame_of, starts_frame-length, starts_frame-rest, starts_frame_held}
use Rattle.netlink_packet_core.specs.FrameWalk.{frame_of}
use Rattle.netlink_packet_core.specs.Header.{HoldsFrame, field}
use Rattle.netlink_packet_core.specs.Nla.{attribute_with}
use Rattle.netlink_packet_core.specs.NumberLaws.{IsBytes-drop}
use Rattle.netlink_packet_core.specs.StartLaws.{starts-rest, starts_held}
use Rattle.netlink_packet_core.specs.Views.{length_field, raw_kind, attribute_of, HoldsAttribute}
use Rattle.netlink_packet_core.specs.Walk.{Starts}
use Rattle.netlink_tree.specs.FrameWalk.{StartsFrame}
use Rattle.netlink_c.specs.Parts.{part_from}
use Rattle.netlink_c.specs.Steps.{StartsAttributeAt, StartsFrameAt}

-- a part of the bytes starting at an offset is a part of all the bytes
part-drop : (bytes : List ℕ) (at from size to : ℕ) → from + size ≡ to → slice_range (drop at bytes) from to
    ≡ part_from (at + from) size bytes
part-drop bytes at from size to e =
    let sizes : to - from ≡ (at + from + size) - (at + from) = omega arith in
    ap (λ (n : ℕ). take n (drop from (drop at bytes))) sizes ∙ ap (take ((at + from + size) - (at + from))) (drop-drop from at bytes)

attribute_at : (bytes : List ℕ) (at kind size next : ℕ) (rest : List ℕ) → at ≤ length bytes → HoldsAttribute (drop at bytes)
    → Starts (drop at bytes) (attribute_of (drop at bytes)) rest
    → kind ≡ raw_kind (drop at bytes) → size + 4 ≡ length_field (drop at bytes) → drop next bytes
    ≡ drop (size + 4 + padding (size + 4)) (drop at bytes) → (at < next) × (next ≤ length bytes)
    → StartsAttributeAt bytes at (record { kind = kind; offset = at + 4; size = size }) next
attribute_at bytes at kind size next rest inside holds starts kinds sizes behind forward =
    let left = length-drop at bytes in
    let header = holds.header in
    let least = holds.least in
    let most = holds.most in
    let left_after = length-drop 4 (drop at bytes) in
    let value : slice_range (drop at bytes) 4 (length_field (drop at bytes))
    ≡ part_from (at + 4) size bytes = part-drop bytes at 4 size (length_field (drop at bytes)) (omega arith) in
    let long : length (take (length_field (drop at bytes) - 4) (drop 4 (drop at bytes)))
    ≡ length_field (drop at bytes) - 4 = length-take-le (length_field (drop at bytes) - 4) (drop 4 (drop at bytes)) (omega arith) in
    let same : attribute_of (drop at bytes)
    ≡ attribute_with kind (part_from (at + 4) size bytes) = (λ i. record { kind = sym kinds i; value = value i }) in
    let rests : rest ≡ drop next bytes = starts-rest _ _ _ starts ∙ ap (λ (n : ℕ). drop n (drop at bytes)) (omega arith) ∙ sym behind in
    record {
      starts = subst (λ (r : List ℕ). Starts (drop at bytes) (attribute_with kind (part_from (at + 4) size bytes)) r) rests
          (subst (λ (a : Attribute). Starts (drop at bytes) a rest) same starts);
      offset = refl;
      inside = omega arith;
      forward = forward;
    }

-- an attribute that the bytes hold at an offset is inside them
pub attribute_fits : (bytes : List ℕ) (at size : ℕ) → at < length bytes → HoldsAttribute (drop at bytes)
    → size ≡ length_field (drop at bytes) → (at + size ≤ length bytes) × (4 ≤ size)
attribute_fits bytes at size inside holds said =
    let left = length-drop at bytes in
    let least = holds.least in
    let most = holds.most in
    (omega arith, omega arith)

-- and it starts there
attribute_held : (bytes : List ℕ) (at kind size next : ℕ) → ((i : ℕ) → slice_index bytes i < 256) → at < length bytes
    → HoldsAttribute (drop at bytes) → kind ≡ raw_kind (drop at bytes) → size ≡ length_field (drop at bytes) → drop next bytes
    ≡ drop (size + padding size) (drop at bytes) → (at < next) × (next ≤ length bytes)
    → StartsAttributeAt bytes at (record { kind = kind; offset = at + 4; size = size - 4 }) next
attribute_held bytes at kind size next each inside holds kinds said behind forward =
    let here : List ℕ = drop at bytes in
    let least = holds.least in
    let whole : size - 4 + 4 ≡ size = omega arith in
    let starts = starts_held here (size + padding size) (IsBytes-drop at bytes each) holds (omega arith) (omega arith) (omega arith) in
    attribute_at bytes at kind (size - 4) next (drop (size + padding size) here) (omega arith) holds starts kinds (whole ∙ said)
    (behind ∙ ap (λ (k : ℕ). drop (k + padding k) here) (sym whole)) forward

-- the same, of the bytes that are left
pub attribute_found : (bytes unread : List ℕ) (at kind size next : ℕ) → ((i : ℕ) → slice_index bytes i < 256) → at < length bytes
    → unread ≡ drop at bytes → HoldsAttribute unread → kind ≡ raw_kind unread → size ≡ length_field unread → drop next bytes
    ≡ drop (size + padding size) (drop at bytes) → (at < next) × (next ≤ length bytes)
    → StartsAttributeAt bytes at (record { kind = kind; offset = at + 4; size = size - 4 }) next
attribute_found bytes unread at kind size next each inside same holds kinds said behind forward =
    attribute_held bytes at kind size next each inside (subst HoldsAttribute same holds) (kinds ∙ ap raw_kind same)
    (said ∙ ap length_field same) behind forward

frame_inside : (bytes frame rest : List ℕ) (at : ℕ) → at < length bytes → StartsFrame (drop at bytes) frame rest
    → (at + length frame ≤ length bytes) × (16 ≤ length frame)
frame_inside bytes frame rest at inside starts =
    let left = length-drop at bytes in
    let size = starts_frame-length _ _ _ starts in
    let least = starts.least in
    (omega arith, least)

pub frame_at : (bytes : List ℕ) (at next : ℕ) (frame rest : List ℕ) (size : ℕ) → at < length bytes → StartsFrame (drop at bytes) frame rest
    → size ≡ length frame
    → drop next bytes ≡ drop (size + padding size) (drop at bytes) → (at < next) × (next ≤ length bytes)
    → StartsFrameAt bytes at (record { offset = at; size = size }) next
frame_at bytes at next frame rest size inside starts sizes behind forward =
    let places = frame_inside bytes frame rest at inside starts in
    let front : take (length frame) (drop at bytes) ≡ frame = ap (take (length frame)) starts.whole
    ∙ take_at frame (starts.gap ++ rest) (length frame) refl in
    let n : (at + size) - at ≡ length frame = omega arith in
    let same : part_from at size bytes ≡ frame = ap (λ (k : ℕ). take k (drop at bytes)) n ∙ front in
    let rests : rest ≡ drop next bytes = starts_frame-rest _ _ _ starts ∙ ap (λ (k : ℕ). drop (k + padding k) (drop at bytes)) (sym sizes)
    ∙ sym behind in
    record {
      starts = subst (λ (r : List ℕ). StartsFrame (drop at bytes) (part_from at size bytes) r) rests
          (subst (λ (f : List ℕ). StartsFrame (drop at bytes) f rest) (sym same) starts);
      offset = refl;
      inside = omega (arith, places.0);
      forward = forward;
    }

-- a frame that the bytes hold at an offset is inside them
pub held_fits : (bytes : List ℕ) (at size : ℕ) → at < length bytes → HoldsFrame (drop at bytes) → size ≡ field 0 4 (drop at bytes)
    → (at + size ≤ length bytes) × (16 ≤ size)
held_fits bytes at size inside holds said =
    let left = length-drop at bytes in
    let least = holds.least in
    let most = holds.most in
    (omega arith, omega arith)

-- and it starts there
frame_held : (bytes : List ℕ) (at size next : ℕ) → at < length bytes → HoldsFrame (drop at bytes) → size ≡ field 0 4 (drop at bytes)
    → drop next bytes ≡ drop (size + padding size) (drop at bytes) → (at < next) × (next ≤ length bytes)
    → StartsFrameAt bytes at (record { offset = at; size = size }) next
frame_held bytes at size next inside holds said behind forward =
    let here : List ℕ = drop at bytes in
    let starts = starts_frame_held here (size + padding size) holds (omega arith) (omega arith) (omega arith) in
    frame_at bytes at next (frame_of here) (drop (size + padding size) here) size inside starts (said ∙ sym (length-frame_of here holds))
    behind forward

-- the same, of the bytes that are left
pub frame_found : (bytes unread : List ℕ) (at size next : ℕ) → at < length bytes → unread ≡ drop at bytes → HoldsFrame unread
    → size ≡ field 0 4 unread → drop next bytes ≡ drop (size + padding size) (drop at bytes) → (at < next) × (next ≤ length bytes)
    → StartsFrameAt bytes at (record { offset = at; size = size }) next
frame_found bytes unread at size next inside same holds said behind forward =
    frame_held bytes at size next inside (subst HoldsFrame same holds) (said ∙ ap (field 0 4) same) behind forward
