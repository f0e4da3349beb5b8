-- The contents of a buffer in which a nest or a frame is begun or ended.
use Rattle.std.proofs.Common.{◌≡◌, ℕ, ◌+◌, ◌-◌, ◌<◌, ◌≤◌, ◌^◌, List, [], ◌++◌, length, take, drop, refl, ap, sym, ◌∙◌, inl, arith, append_assoc, append-nil, length-append, length-drop}
use Rattle.std.proofs.lemmas.List.{drop_at, drop_all, drop-drop, length-replicate, length-take-le, take-append-drop, take-take}
use Rattle.std.specs.Prelude.{replicate, slice_range}
use Rattle.netlink_packet_core.specs.Attribute.{Attribute, padding}
use Rattle.netlink_packet_core.specs.Header.{field, header_bytes}
use Rattle.netlink_packet_core.specs.Nla.{attribute_with}
use Rattle.netlink_packet_core.specs.NumberLaws.{number_le-bytes_le, length-bytes_le}
use Rattle.netlink_packet_core.specs.Numbers.{number_le, bytes_le}
use Rattle.netlink_packet_core.specs.Sizes.{length-header_bytes}
use Rattle.netlink_packet_core.specs.Storage.{put_at}
use Rattle.netlink_packet_core.specs.Views.{attribute_of, length_field, raw_kind, HoldsAttribute}
use Rattle.netlink_packet_core.specs.declared.header.NetlinkHeader.{NetlinkHeader}
use Rattle.netlink_tree.specs.FrameWalk.{StartsFrame}
use Rattle.netlink_c.specs.Ends.{IsStretch, begun_header, begun_size, frame_bytes}

-- the header, the bytes and the zeros, each in its part of the buffer
pub frame_pieces : (h : NetlinkHeader) (old_front front value zeros : List ℕ) → length old_front ≡ 16 → front
    ≡ header_bytes h ++ drop (length (header_bytes h)) old_front → front ++ (value ++ zeros) ≡ (header_bytes h ++ value) ++ zeros
frame_pieces h old_front front value zeros size written =
    let own = length-header_bytes h in
    let none : drop (length (header_bytes h)) old_front ≡ [] = drop_all (length (header_bytes h)) old_front (omega arith) in
    ap (λ (x : List ℕ). x ++ (value ++ zeros)) (written ∙ ap (λ (x : List ℕ). header_bytes h ++ x) none ∙ append-nil (header_bytes h))
    ∙ sym (append_assoc (header_bytes h) value zeros)

pub ruleset frame_sizes = (length-header_bytes, frame_pieces)

-- what follows an offset at which a number was put
after_put : (buffer text : List ℕ) (start : ℕ) → start ≤ length buffer → drop start (put_at buffer start text)
    ≡ text ++ drop (length text) (drop start buffer)
after_put buffer text start inside =
    drop_at (take start buffer) (text ++ drop (start + length text) buffer) start (length-take-le start buffer inside)
    ∙ ap (λ (x : List ℕ). text ++ x) (sym (drop-drop (length text) start buffer))

length-put : (buffer text : List ℕ) (start : ℕ) → start + length text ≤ length buffer → length (put_at buffer start text) ≡ length buffer
length-put buffer text start inside =
    let front = length-take-le start buffer (omega arith) in
    let left = length-drop (start + length text) buffer in
    length-append (take start buffer) (text ++ drop (start + length text) buffer)
    ∙ (let rest = length-append text (drop (start + length text) buffer) in omega arith)

length_field-put : (n : ℕ) (rest : List ℕ) → n < 2 ^ 16 → length_field (bytes_le n 2 ++ rest) ≡ n
unfolding bytes_le
length_field-put n rest fits = number_le-bytes_le n 2 fits

raw_kind-put : (n : ℕ) (rest : List ℕ) → raw_kind (bytes_le n 2 ++ rest) ≡ number_le (take 2 rest)
unfolding bytes_le
raw_kind-put n rest = refl

drop-put : (n : ℕ) (rest : List ℕ) → drop 4 (bytes_le n 2 ++ rest) ≡ drop 2 rest
unfolding bytes_le
drop-put n rest = refl

same_attribute : (a b : Attribute) → a.kind ≡ b.kind → a.value ≡ b.value → a ≡ b
same_attribute a b p q = λ i. record { kind = p i; value = q i }

-- an ended nest is an attribute of its old kind, with the bytes up to the cursor as its value
pub nest_reads_back : (buffer new : List ℕ) (start cursor : ℕ) → IsStretch (length buffer) start cursor 4 → cursor - start < 2 ^ 16 → new
    ≡ put_at buffer start (bytes_le (cursor - start) 2)
    → HoldsAttribute (drop start new)
    × (attribute_of (drop start new) ≡ attribute_with (raw_kind (drop start buffer)) (slice_range buffer (start + 4) cursor))
nest_reads_back buffer new start cursor stretch small written =
    let n = cursor - start in
    let inside = stretch.inside in
    let enough = stretch.enough in
    let two = length-bytes_le (cursor - start) 2 in
    let rest = drop 2 (drop start buffer) in
    let here : drop start new ≡ bytes_le n 2 ++ rest = ap (drop start) written ∙ after_put buffer (bytes_le n 2) start (omega arith)
    ∙ ap (λ (k : ℕ). bytes_le n 2 ++ drop k (drop start buffer)) two in
    let said : length_field (drop start new) ≡ n = ap length_field here ∙ length_field-put n rest small in
    let size : length new ≡ length buffer = ap length written ∙ length-put buffer (bytes_le n 2) start (omega arith) in
    let left : length (drop start new) ≡ length buffer - start = length-drop start new ∙ ap (λ (k : ℕ). k - start) size in
    let kind : raw_kind (drop start new) ≡ raw_kind (drop start buffer) = ap raw_kind here ∙ raw_kind-put n rest in
    let tail : drop 4 (drop start new) ≡ drop (start + 4) buffer = ap (drop 4) here ∙ drop-put n rest ∙ drop-drop 2 2 (drop start buffer)
    ∙ drop-drop 4 start buffer in
    let count : length_field (drop start new) - 4 ≡ cursor - (start + 4) = omega arith in
    let value : slice_range (drop start new) 4 (length_field (drop start new)) ≡ slice_range buffer (start + 4) cursor =
    ap (λ (k : ℕ). take k (drop 4 (drop start new))) count ∙ ap (take (cursor - (start + 4))) tail in
    (record { header = omega arith; least = omega arith; most = omega arith }, same_attribute _ _ kind value)

field-put : (n : ℕ) (rest : List ℕ) → n < 2 ^ 32 → field 0 4 (bytes_le n 4 ++ rest) ≡ n
unfolding bytes_le
field-put n rest fits = number_le-bytes_le n 4 fits

-- an ended frame is the bytes up to the cursor
pub end_reads_back : (buffer new : List ℕ) (start cursor : ℕ) → IsStretch (length buffer) start cursor 16 → cursor - start < 2 ^ 32 → new
    ≡ put_at buffer start (bytes_le (cursor - start) 4)
    → StartsFrame (drop start new) (slice_range new start cursor) (drop cursor new)
end_reads_back buffer new start cursor stretch small written =
    let n = cursor - start in
    let inside = stretch.inside in
    let enough = stretch.enough in
    let whole = stretch.whole in
    let four = length-bytes_le (cursor - start) 4 in
    let rest = drop 4 (drop start buffer) in
    let here : drop start new ≡ bytes_le n 4 ++ rest = ap (drop start) written ∙ after_put buffer (bytes_le n 4) start (omega arith)
    ∙ ap (λ (k : ℕ). bytes_le n 4 ++ drop k (drop start buffer)) four in
    let said : field 0 4 (drop start new) ≡ n = ap (field 0 4) here ∙ field-put n rest small in
    let size : length new ≡ length buffer = ap length written ∙ length-put buffer (bytes_le n 4) start (omega arith) in
    let left : length (drop start new) ≡ length buffer - start = length-drop start new ∙ ap (λ (k : ℕ). k - start) size in
    let taken : length (take (cursor - start) (drop start new))
    ≡ cursor - start = length-take-le (cursor - start) (drop start new) (omega arith) in
    let behind : drop (cursor - start) (drop start new) ≡ drop cursor new = drop-drop (cursor - start) start new
    ∙ ap (λ (k : ℕ). drop k new) (let e : start + (cursor - start) ≡ cursor = omega arith in e) in
    let front : take 4 (take (cursor - start) (drop start new))
    ≡ take 4 (drop start new) = take-take 4 (cursor - start) (drop start new) (omega arith) in
    record {
      size = ap number_le front ∙ said ∙ sym taken;
      least = omega arith;
      gap = [];
      whole = sym (take-append-drop (cursor - start) (drop start new))
          ∙ ap (λ (x : List ℕ). take (cursor - start) (drop start new) ++ x) behind;
      gap_size = inl (let none : 0 ≡ padding (length (take (cursor - start) (drop start new))) = omega arith in none);
    }

field-header : (h : NetlinkHeader) (more : List ℕ) → h.length < 2 ^ 32 → field 0 4 (header_bytes h ++ more) ≡ h.length
unfolding bytes_le
field-header h more fits = number_le-bytes_le h.length 4 fits

-- a frame that was begun is read back as the header and the bytes
pub frame_reads_back : (h : NetlinkHeader) (fixed buffer new : List ℕ) (at next : ℕ) → new
    ≡ put_at buffer at (frame_bytes h fixed ++ replicate (padding (length fixed)) 0) → next ≡ at + begun_size (length fixed)
    → at + begun_size (length fixed) ≤ length buffer → 16 + length fixed < 2 ^ 32
    → StartsFrame (drop at new) (frame_bytes h fixed) (drop next new)
frame_reads_back h fixed buffer new at next written moved room small =
    let zeros : List ℕ = replicate (padding (length fixed)) 0 in
    let head = begun_header h (length fixed) in
    let own : length (frame_bytes h fixed) ≡ 16 + length fixed = length-append (header_bytes head) fixed
    ∙ ap (λ (k : ℕ). k + length fixed) (length-header_bytes head) in
    let zero = length-replicate {A = ℕ} (padding (length fixed)) 0 in
    let all : length (frame_bytes h fixed ++ zeros) ≡ begun_size (length fixed) = length-append (frame_bytes h fixed) zeros ∙ omega arith in
    let tail : List ℕ = drop (at + length (frame_bytes h fixed ++ zeros)) buffer in
    let taken : length (take at buffer) ≡ at = length-take-le at buffer (omega arith) in
    let here : drop at new ≡ (frame_bytes h fixed ++ zeros) ++ tail = ap (drop at) written
    ∙ drop_at (take at buffer) ((frame_bytes h fixed ++ zeros) ++ tail) at taken in
    let rest : drop next new ≡ tail = ap (λ (k : ℕ). drop k new) moved ∙ sym (drop-drop (begun_size (length fixed)) at new)
    ∙ ap (drop (begun_size (length fixed))) here ∙ drop_at (frame_bytes h fixed ++ zeros) tail (begun_size (length fixed)) all in
    record {
      size = field-header head fixed small ∙ sym own;
      least = omega arith;
      gap = zeros;
      whole = here ∙ append_assoc (frame_bytes h fixed) zeros tail ∙ ap (λ (x : List ℕ). frame_bytes h fixed ++ (zeros ++ x)) (sym rest);
      gap_size = inl (zero ∙ (let padded : padding (length fixed) ≡ padding (length (frame_bytes h fixed)) = omega arith in padded));
    }
