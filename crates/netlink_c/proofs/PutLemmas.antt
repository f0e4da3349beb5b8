-- The contents of a buffer into which an attribute was put.
use Rattle.std.proofs.Common.{◌≡◌, ℕ, ◌+◌, ◌-◌, ◌<◌, ◌≤◌, ◌^◌, List, [], ◌∷◌, ◌++◌, length, take, drop, ap, sym, ◌∙◌, inl, arith, append_assoc, append-nil, length-append, length-drop}
use Rattle.std.proofs.lemmas.List.{drop_at, drop_all, drop-append-le, drop-drop, drop-take, length-replicate, length-take, length-take-le, take_at}
use Rattle.std.specs.Prelude.{replicate, slice_range}
use borrow.Rule.Slice.PartMut.{put_mid}
use Rattle.netlink_packet_core.specs.Attribute.{Attribute, attribute_bytes, padded, padded_size, padding, value_max}
use Rattle.netlink_packet_core.specs.AttributeSizes.{length-padded, length-written}
use Rattle.netlink_packet_core.specs.Block.{canonical_block}
use Rattle.netlink_packet_core.specs.Storage.{put_at}
use Rattle.netlink_packet_core.specs.Walk.{Starts}

-- bytes are written over a part of a buffer
pub put_part : (at n : ℕ) (buffer text new : List ℕ) → n ≡ length text → new ≡ text ++ drop (length text) (take n (drop at buffer))
    → put_mid at n buffer new ≡ put_at buffer at text
put_part at n buffer text new sizes written =
    let taken = length-take n (drop at buffer) in
    let none : drop (length text) (take n (drop at buffer)) ≡ [] = drop_all (length text) (take n (drop at buffer)) (omega arith) in
    let whole : new ≡ text = written ∙ ap (λ (x : List ℕ). text ++ x) none ∙ append-nil text in
    let behind : drop n (drop at buffer) ≡ drop (at + length text) buffer = drop-drop n at buffer
    ∙ ap (λ (k : ℕ). drop (at + k) buffer) sizes in
    ap (λ (x : List ℕ). take at buffer ++ (x ++ drop n (drop at buffer))) whole ∙ ap (λ (x : List ℕ). take at buffer ++ (text ++ x)) behind

canonical_block-snoc : (all : List Attribute) (a : Attribute) → canonical_block (all ++ a ∷ []) ≡ canonical_block all ++ padded a
canonical_block-snoc [] a = append-nil (padded a)
canonical_block-snoc (first ∷ all) a = ap (λ (x : List ℕ). padded first ++ x) (canonical_block-snoc all a)
    ∙ sym (append_assoc (padded first) (canonical_block all) (padded a))

-- what was put follows the former block
grown : (a : Attribute) (buffer : List ℕ) (at start : ℕ) (all : List Attribute) → at + padded_size a ≤ length buffer → start ≤ at
    → slice_range buffer start at ≡ canonical_block all
    → slice_range (put_at buffer at (padded a)) start (at + padded_size a) ≡ canonical_block (all ++ a ∷ [])
grown a buffer at start all room order held =
    let tail = drop (at + length (padded a)) buffer in
    let taken : length (take at buffer) ≡ at = length-take-le at buffer (omega arith) in
    let split : at ≡ start + (at - start) = omega arith in
    let front : drop start (take at buffer) ≡ canonical_block all = ap (λ (k : ℕ). drop start (take k buffer)) split
    ∙ drop-take start (at - start) buffer ∙ held in
    let left : length (canonical_block all) ≡ at - start = ap length (sym front) ∙ length-drop start (take at buffer)
    ∙ ap (λ (k : ℕ). k - start) taken in
    let behind : drop start (put_at buffer at (padded a)) ≡ (canonical_block all ++ padded a) ++ tail =
    drop-append-le start (take at buffer) (padded a ++ tail) (omega arith) ∙ ap (λ (x : List ℕ). x ++ (padded a ++ tail)) front
    ∙ sym (append_assoc (canonical_block all) (padded a) tail) in
    let size : length (canonical_block all ++ padded a) ≡ at + padded_size a - start = length-append (canonical_block all) (padded a)
    ∙ (let own = length-padded a in omega arith) in
    ap (take (at + padded_size a - start)) behind ∙ take_at (canonical_block all ++ padded a) tail (at + padded_size a - start) size
    ∙ sym (canonical_block-snoc all a)

pub grows_block : (a : Attribute) (buffer new : List ℕ) (at next start : ℕ) (all : List Attribute) → at + padded_size a ≤ length buffer
    → new ≡ put_at buffer at (padded a) → next ≡ at + padded_size a
    → start ≤ at → slice_range buffer start at ≡ canonical_block all → slice_range new start next ≡ canonical_block (all ++ a ∷ [])
grows_block a buffer new at next start all room written moved order held =
    ap (λ (x : List ℕ). slice_range x start next) written ∙ ap (slice_range (put_at buffer at (padded a)) start) moved
    ∙ grown a buffer at start all room order held

-- and the walk yields it, if the attribute fits its fields
pub put_reads_back : (a : Attribute) (buffer new : List ℕ) (at next : ℕ) → a.kind < 2 ^ 16 → length a.value ≤ value_max
    → at + padded_size a ≤ length buffer → new ≡ put_at buffer at (padded a) → next ≡ at + padded_size a
    → Starts (drop at new) a (drop next new)
put_reads_back a buffer new at next kind value room written moved =
    let tail = drop (at + length (padded a)) buffer in
    let taken : length (take at buffer) ≡ at = length-take-le at buffer (omega arith) in
    let here : drop at new ≡ padded a ++ tail = ap (drop at) written ∙ drop_at (take at buffer) (padded a ++ tail) at taken in
    let rest : drop next new ≡ tail = ap (λ (k : ℕ). drop k new) moved ∙ sym (drop-drop (padded_size a) at new)
    ∙ ap (drop (padded_size a)) here ∙ drop_at (padded a) tail (padded_size a) (length-padded a) in
    record {
      fits = record { kind = kind; value = value };
      gap = replicate (padding (length a.value)) 0;
      whole = here ∙ append_assoc (attribute_bytes a) (replicate (padding (length a.value)) 0) tail
          ∙ ap (λ (x : List ℕ). attribute_bytes a ++ (replicate (padding (length a.value)) 0 ++ x)) (sym rest);
      gap_size = inl (length-replicate (padding (length a.value)) 0);
    }

-- what a proof of a write needs
pub ruleset put_sizes = (length-written, put_part)
