-- Canonical payloads stay canonical when they are changed.
use Rattle.std.proofs.Common.{◌≡◌, ◌≤◌, ◌<◌, ◌+◌, ◌-◌, ◌^◌, ℕ, true, List, [], ◌∷◌, ◌++◌, length, take, drop, refl, sym, ap, ◌∙◌, arith, append-nil, append_assoc, length-append, length-drop, None, replicate}
use Rattle.std.specs.Prelude.{All, Result, Ok, Err, OnOk, IfErr, slice_set}
use Rattle.std.specs.Cmp.Lexicographic.{bytes_decides}
use Rattle.std.specs.List.{list_all}
use Rattle.std.proofs.Math.Seq.{drop-append-add}
use Rattle.netlink_packet_core.specs.Numbers.{bytes_le}
use Rattle.netlink_packet_core.specs.NumberLaws.{length-bytes_le}
use Rattle.std.proofs.lemmas.Bool.{and_from, and_parts, le-leb, leb-true}
use Rattle.std.proofs.lemmas.List.{drop_all, drop_at, drop-drop, length-replicate, take_all, length-take-le, take-append-drop, take-set, drop-set}
use Rattle.std.proofs.lemmas.List.Elements.{All-append, All-nil, All-cons, All-head, All-tail}
use Rattle.netlink_packet_core.specs.Attribute.{Attribute, FitsAttribute, padded, padding, value_max}
use Rattle.netlink_packet_core.specs.AttributeSizes.{length-padded}
use Rattle.netlink_packet_core.specs.Block.{canonical_block}
use Rattle.netlink_packet_core.specs.Nla.{attribute_with, block_max}
use Rattle.netlink_packet_core.specs.ReadingLaws.{attributes_in-written}
use Rattle.netlink_packet_core.specs.Storage.{put_at}
use Rattle.netlink_shapes.specs.Blocks.{value_fits}
use Rattle.netlink_family.specs.BlocksLaws.{AreNormalized}
use Rattle.netlink_family.specs.PayloadReading.{IsWrittenBy, payload_again, payload_written}
use Rattle.netlink_family.specs.Message.{is_canonical_payload, is_encoding}
use Rattle.netlink_family.specs.CanonicalPayloadLaws.{canonical_reads, shaped_itself, canonical_long}
use Rattle.netlink_shapes.specs.Listing.{listed, listed_all}
use Rattle.netlink_shapes.specs.Pushing.{has_room, late_error}
use Rattle.netlink_shapes.specs.Shapes.{Row, fits_kind, keeps_by, reading_by, within}
use Rattle.netlink_family.proofs.Appending.{are_pushed}
use Rattle.netlink_shapes.specs.Normalizing.{canonical-push, nothing_normalized, normalized_push}

parts_of : (size : ℕ) (rows : List Row) (bytes : List ℕ) → is_canonical_payload size rows bytes ≡ true
    → IsWrittenBy size (reading_by rows) 0 (0, bytes)
parts_of size rows bytes is =
    payload_written size (reading_by rows) 0 bytes (0, bytes) (keeps_by rows) (canonical_reads size rows bytes is 0)

canonical_by : (size : ℕ) (rows : List Row) (bytes : List ℕ) → IsWrittenBy size (reading_by rows) 0 (0, bytes)
    → is_canonical_payload size rows bytes ≡ true
canonical_by size rows bytes by =
    ap (is_encoding bytes) (payload_again size (reading_by rows) 0 (0, bytes) by) ∙ (bytes_decides bytes bytes).1 refl

parts_join : (size : ℕ) (rows : List Row) (bytes : List ℕ) (by : IsWrittenBy size (reading_by rows) 0 (0, bytes))
    → bytes ≡ by.head ++ canonical_block by.all
parts_join size rows bytes by = ap (λ (p : ℕ × List ℕ). p.1) by.whole

none_normalized : (rows : List Row) → AreNormalized (reading_by rows) []
none_normalized rows = record { again = nothing_normalized (reading_by rows []); fits = All-nil FitsAttribute; whole = refl }

-- a header without attributes is a canonical payload
pub header_canonical : (size : ℕ) (rows : List Row) (head : List ℕ) → length head ≡ size → is_canonical_payload size rows head ≡ true
header_canonical size rows head sized =
    canonical_by size rows head
    (record { head = head; all = []; whole = ap (λ (x : List ℕ). (0, x)) (sym (append-nil head)); sized = sized; normalized = none_normalized rows })

pub zeros_canonical : (size : ℕ) (rows : List Row) (head : List ℕ) → head ≡ replicate size 0 → is_canonical_payload size rows head ≡ true
zeros_canonical size rows head zeros = header_canonical size rows head (ap length zeros ∙ length-replicate size 0)

-- replacing the header keeps a payload canonical
other_header : (size : ℕ) (rows : List Row) (bytes new : List ℕ) → is_canonical_payload size rows bytes ≡ true
    → length new ≡ length bytes → drop size new ≡ drop size bytes → is_canonical_payload size rows new ≡ true
other_header size rows bytes new is long same =
    let fits = canonical_long size rows bytes is in
    let by = parts_of size rows bytes is in
    let text = parts_join size rows bytes by in
    let after : drop size bytes ≡ canonical_block by.all =
    ap (drop size) text ∙ drop_at by.head (canonical_block by.all) size by.sized in
    canonical_by size rows new (record {
      head = take size new;
      all = by.all;
      whole =
          ap (λ (x : List ℕ). (0, x))
          (sym (take-append-drop size new) ∙ ap (λ (x : List ℕ). take size new ++ x) (same ∙ after));
      sized = length-take-le size new (omega (arith, fits, long));
      normalized = by.normalized;
    })

put_long : (bytes : List ℕ) (at : ℕ) (text : List ℕ) → at + length text ≤ length bytes
    → length (put_at bytes at text) ≡ length bytes
put_long bytes at text inside =
    let front = length-take-le at bytes (omega (arith, inside)) in
    let one = length-append (take at bytes) (text ++ drop (at + length text) bytes) in
    let two = length-append text (drop (at + length text) bytes) in
    let three = length-drop (at + length text) bytes in
    omega (arith, front, one, two, three, inside)

put_keeps : (size : ℕ) (bytes : List ℕ) (at : ℕ) (text : List ℕ) → at + length text ≤ size → size ≤ length bytes
    → drop size (put_at bytes at text) ≡ drop size bytes
put_keeps size bytes at text inside long =
    let n : ℕ = at + length text in
    let k : ℕ = size - n in
    let front : List ℕ = take at bytes ++ text in
    let len : length front ≡ n =
    length-append (take at bytes) text ∙ ap (λ (m : ℕ). m + length text) (length-take-le at bytes (omega (arith, inside, long))) in
    let e : size ≡ length front + k = omega (arith, len, inside) in
    let back : n + k ≡ size = omega (arith, inside) in
    ap (λ (m : ℕ). drop m (put_at bytes at text)) e
    ∙ ap (drop (length front + k)) (sym (append_assoc (take at bytes) text (drop n bytes)))
    ∙ drop-append-add front (drop n bytes) k ∙ drop-drop k n bytes ∙ ap (λ (m : ℕ). drop m bytes) back

-- bytes are written into the header
pub text_canonical : (size : ℕ) (rows : List Row) (bytes : List ℕ) (at : ℕ) (text : List ℕ) → is_canonical_payload size rows bytes ≡ true
    → at + length text ≤ size → is_canonical_payload size rows (put_at bytes at text) ≡ true
text_canonical size rows bytes at text is inside =
    let fits = canonical_long size rows bytes is in
    other_header size rows bytes (put_at bytes at text) is (put_long bytes at text (omega (arith, fits, inside)))
    (put_keeps size bytes at text inside fits)

pub put_canonical : (size : ℕ) (rows : List Row) (bytes : List ℕ) (at n w : ℕ) → is_canonical_payload size rows bytes ≡ true
    → at + w ≤ size → is_canonical_payload size rows (put_at bytes at (bytes_le n w)) ≡ true
put_canonical size rows bytes at n w is inside =
    let wide = length-bytes_le n w in text_canonical size rows bytes at (bytes_le n w) is (omega (arith, wide, inside))

-- one byte is set
pub byte_set : (bytes : List ℕ) (i value : ℕ) → i < length bytes → slice_set bytes i value ≡ put_at bytes i (value ∷ [])
byte_set bytes i value less =
    sym (take-append-drop i (slice_set bytes i value))
    ∙ ap (λ (front : List ℕ). front ++ drop i (slice_set bytes i value)) (take-set bytes i value)
    ∙ ap (λ (back : List ℕ). take i bytes ++ back) (drop-set bytes i value less)

values_fit : (all : List Attribute) → All FitsAttribute all → list_all value_fits all ≡ true
values_fit [] each = refl
values_fit (a ∷ all) each =
    and_from _ _ (le-leb _ _ (All-head FitsAttribute a all each).value) (values_fit all (All-tail FitsAttribute a all each))

-- an attribute is appended
pub push_canonical : (size : ℕ) (rows : List Row) (bytes new : List ℕ) (kind : ℕ) (value : List ℕ) → is_canonical_payload size rows bytes ≡ true
    → kind < 2 ^ 16 → fits_kind (within rows (drop size bytes)) kind value ≡ true
    → late_error (within rows (drop size bytes)) kind ≡ None → has_room size bytes value ≡ true → new ≡ bytes ++ padded (attribute_with kind value)
    → is_canonical_payload size rows new ≡ true
push_canonical size rows bytes new kind value is small shaped late has writes =
    let parts = and_parts _ _ has in
    let fit = leb-true (length value) value_max parts.0 in
    let room = leb-true (length bytes - size + (4 + length value + padding (length value))) block_max parts.1 in
    let a : Attribute = attribute_with kind value in
    let by = parts_of size rows bytes is in
    let all : List Attribute = by.all ++ (a ∷ []) in
    let text = parts_join size rows bytes by in
    let after : drop size bytes ≡ canonical_block by.all =
    ap (drop size) text ∙ drop_at by.head (canonical_block by.all) size by.sized in
    let same : listed (drop size bytes) ≡ by.all =
    ap listed after
    ∙ listed_all (canonical_block by.all) by.all (attributes_in-written by.all by.normalized.fits) in
    let own : fits_kind (rows, by.all) kind value ≡ true =
    ap (λ (x : List Attribute). fits_kind (rows, x) kind value) (sym same) ∙ shaped in
    let pushed = are_pushed rows by.all a
    (ap (λ (x : List Attribute). late_error (rows, x) kind) (sym same) ∙ late) in
    let block : canonical_block all ≡ canonical_block by.all ++ padded a = canonical-push by.all a in
    let each : All FitsAttribute all =
    All-append FitsAttribute by.all (a ∷ []) by.normalized.fits
    (All-cons FitsAttribute a [] (record { kind = small; value = fit }) (All-nil FitsAttribute)) in
    let long = ap length block ∙ length-append (canonical_block by.all) (padded a) in
    let was = ap length text ∙ length-append by.head (canonical_block by.all) in
    let more = length-padded a in
    canonical_by size rows new (record {
      head = by.head;
      all = all;
      whole =
          ap (λ (x : List ℕ). (0, x))
          (writes ∙ ap (λ (x : List ℕ). x ++ padded a) text ∙ append_assoc by.head (canonical_block by.all) (padded a)
          ∙ ap (λ (x : List ℕ). by.head ++ x) (sym block));
      sized = by.sized;
      normalized = record {
        again =
            normalized_push (reading_by rows all) by.all a (pushed.before ∙ by.normalized.again)
            (pushed.own ∙ shaped_itself (rows, by.all) kind value own);
        fits = each;
        whole = and_from _ _ (values_fit all each) (le-leb _ _ (omega (arith, long, was, more, by.sized, room)));
      };
    })

-- either the result is `Ok` and its clause holds, or it is `Err` and the other clause holds
pub either : {A E : Type 0} (r : Result A E) (P : Type 0) (Q : E → Type 0) (Goal : Type 0) → OnOk r P → IfErr r Q → (P → Goal)
    → ((e : E) → Q e → Goal) → Goal
either (Ok v) P Q Goal p q f h = f p
either (Err e) P Q Goal p q f h = h e q

whole_written : (len : ℕ) (items new : List ℕ) → length items ≡ len → length new ≡ length items
    → take len (new ++ drop (length new) items) ≡ new
whole_written len items new long same =
    ap (λ (x : List ℕ). take len (new ++ x)) (drop_all (length new) items (omega (arith, same)))
    ∙ ap (take len) (append-nil new) ∙ take_all len new (omega (arith, long, same))

-- the same for the contents of a vector that was written through a borrow
pub text_written : (size : ℕ) (rows : List Row) (items : List ℕ) (at : ℕ) (text : List ℕ) (len : ℕ) (new seen : List ℕ)
    → is_canonical_payload size rows items ≡ true → at + length text ≤ size → length items ≡ len → seen ≡ items → new ≡ put_at seen at text
    → is_canonical_payload size rows (take len (new ++ drop (length new) items)) ≡ true
text_written size rows items at text len new seen is inside long same writes =
    let fits = canonical_long size rows items is in
    let e : new ≡ put_at items at text = writes ∙ ap (λ (x : List ℕ). put_at x at text) same in
    let l : length new ≡ length items = ap length e ∙ put_long items at text (omega (arith, fits, inside)) in
    ap (is_canonical_payload size rows) (whole_written len items new long l ∙ e) ∙ text_canonical size rows items at text is inside

pub put_written : (size : ℕ) (rows : List Row) (items : List ℕ) (at n w len : ℕ) (new seen : List ℕ) → is_canonical_payload size rows items ≡ true
    → at + w ≤ size → length items ≡ len → seen ≡ items → new ≡ put_at seen at (bytes_le n w)
    → is_canonical_payload size rows (take len (new ++ drop (length new) items)) ≡ true
put_written size rows items at n w len new seen is inside long same writes =
    let wide = length-bytes_le n w in
    text_written size rows items at (bytes_le n w) len new seen is (omega (arith, wide, inside)) long same writes
