-- A copy whose padding becomes zeros, one attribute after another.
use Rattle.std.proofs.Common.{◌≡◌, ℕ, ◌+◌, ◌<◌, ◌≤◌, List, [], ◌∷◌, ◌++◌, length, take, drop, ap, sym, ◌∙◌, inl, inr, arith, append_assoc, append-nil, length-append, length-drop}
use Rattle.std.proofs.lemmas.List.{length-replicate, length-take-le, take_at}
use Rattle.std.specs.Prelude.{replicate}
use Rattle.netlink_bytes.specs.Storage.{put_at}
use Rattle.netlink_attributes.specs.Attribute.{Attribute, attribute_bytes, padded, padding}
use Rattle.netlink_attributes.specs.Block.{canonical_block, filled}
use Rattle.netlink_attributes.specs.BlockLaws.{block_push}
use Rattle.netlink_attributes.specs.Sizes.{length-attribute_bytes, length-padded}
use Rattle.netlink_attributes.specs.StartLaws.{starts-length}
use Rattle.netlink_attributes.specs.Walk.{Starts}
use Rattle.netlink_attributes.proofs.ReplaceLemmas.{put_after, put_front}

-- bytes that start with an attribute, with zeros up to a multiple of 4: all of its padding, and then the rest in the same way
abbrev IsParted : List ℕ → Attribute → List ℕ → Type 0
IsParted bytes a rest =
    (gap : List ℕ) × (length gap ≡ padding (length a.value)) × (filled bytes ≡ attribute_bytes a ++ (gap ++ filled rest))

parted : (text gap rest tail : List ℕ) → (text ++ (gap ++ rest)) ++ tail ≡ text ++ (gap ++ (rest ++ tail))
parted text gap rest tail = append_assoc text (gap ++ rest) tail ∙ ap (λ (x : List ℕ). text ++ x) (append_assoc gap rest tail)

filled_full : (bytes : List ℕ) (a : Attribute) (rest : List ℕ) → (starts : Starts bytes a rest)
    → length starts.gap ≡ padding (length a.value) → IsParted bytes a rest
filled_full bytes a rest starts full =
    let size = starts-length bytes a rest starts in
    let same : padding (length bytes) ≡ padding (length rest) = omega (arith, size, full) in (
      starts.gap,
      full,
      ap (λ (x : List ℕ). x ++ replicate (padding (length bytes)) 0) starts.whole
          ∙ ap (λ (k : ℕ). (attribute_bytes a ++ (starts.gap ++ rest)) ++ replicate k 0) same
          ∙ parted (attribute_bytes a) starts.gap rest (replicate (padding (length rest)) 0),
    )

filled_short : (bytes : List ℕ) (a : Attribute) (rest : List ℕ) → (starts : Starts bytes a rest)
    → length starts.gap < padding (length a.value) → rest ≡ [] → IsParted bytes a rest
filled_short bytes a rest starts short none =
    let tail : List ℕ = replicate (padding (length bytes)) 0 in
    let size = starts-length bytes a rest starts in
    let nothing : length rest ≡ 0 = ap length none in
    let room : length tail ≡ padding (length bytes) = length-replicate (padding (length bytes)) 0 in (
      starts.gap ++ tail,
      length-append starts.gap tail ∙ omega (arith, size, nothing, room, short),
      ap (λ (x : List ℕ). x ++ tail) starts.whole
          ∙ parted (attribute_bytes a) starts.gap rest tail
          ∙ ap (λ (x : List ℕ). attribute_bytes a ++ (starts.gap ++ (x ++ tail))) none
          ∙ ap (λ (x : List ℕ). attribute_bytes a ++ x) (sym (append-nil (starts.gap ++ tail)))
          ∙ ap (λ (x : List ℕ). attribute_bytes a ++ ((starts.gap ++ tail) ++ filled x)) (sym none),
    )

filled_starts : (bytes : List ℕ) (a : Attribute) (rest : List ℕ) → Starts bytes a rest → IsParted bytes a rest
filled_starts bytes a rest starts = elim starts.gap_size [
  | inl full ↦ filled_full bytes a rest starts full
  | inr short ↦ filled_short bytes a rest starts short.0 short.1
]

-- the copy has room for the attribute and all of its padding
pub has_room : (done : List Attribute) (block bytes : List ℕ) (a : Attribute) (rest : List ℕ) → Starts bytes a rest
    → block ≡ canonical_block done ++ filled bytes
    → length (canonical_block done) + (4 + length a.value) + padding (length a.value) ≤ length block
has_room done block bytes a rest starts is =
    let part = filled_starts bytes a rest starts in
    let whole : length block ≡ length (canonical_block done) + length (filled bytes) =
    ap length is ∙ length-append (canonical_block done) (filled bytes) in
    let first : length (filled bytes) ≡ length (attribute_bytes a) + length (part.0 ++ filled rest) =
    ap length part.2 ∙ length-append (attribute_bytes a) (part.0 ++ filled rest) in
    omega (arith, whole, first, length-append part.0 (filled rest), length-attribute_bytes a, part.1)

-- the padding of one more attribute becomes zeros
pub cleared_push : (done : List Attribute) (block new bytes : List ℕ) (a : Attribute) (rest : List ℕ) (end count : ℕ)
    → Starts bytes a rest → block ≡ canonical_block done ++ filled bytes
    → end ≡ length (canonical_block done) + (4 + length a.value) → count ≡ padding (length a.value)
    → new ≡ put_at block end (replicate count 0)
    → new ≡ canonical_block (done ++ (a ∷ [])) ++ filled rest
cleared_push done block new bytes a rest end count starts is place counted put =
    let front : List ℕ = canonical_block done in
    let text : List ℕ = attribute_bytes a in
    let padding_zeros : List ℕ = replicate (padding (length a.value)) 0 in
    let part = filled_starts bytes a rest starts in
    let behind : List ℕ = part.0 ++ filled rest in
    let far : end ≡ length (front ++ text) + 0 =
    omega (arith, place, length-append front text, length-attribute_bytes a) in
    let same : length padding_zeros ≡ length part.0 =
    length-replicate (padding (length a.value)) 0 ∙ sym part.1 in
    put
    ∙ ap (λ (k : ℕ). put_at block end (replicate k 0)) counted
    ∙ ap (λ (x : List ℕ). put_at x end padding_zeros)
    (is ∙ ap (λ (x : List ℕ). front ++ x) part.2 ∙ sym (append_assoc front text behind))
    ∙ put_after (front ++ text) behind padding_zeros end 0 far
    ∙ ap (λ (x : List ℕ). (front ++ text) ++ x) (put_front part.0 (filled rest) padding_zeros same)
    ∙ sym (append_assoc (front ++ text) padding_zeros (filled rest))
    ∙ ap (λ (x : List ℕ). x ++ filled rest) (append_assoc front text padding_zeros ∙ sym (block_push done a))

-- and the written attributes have become longer by its padded size
pub length-pushed : (done : List Attribute) (a : Attribute)
    → length (canonical_block (done ++ (a ∷ []))) ≡ length (canonical_block done) + (4 + length a.value + padding (length a.value))
length-pushed done a =
    ap length (block_push done a) ∙ length-append (canonical_block done) (padded a)
    ∙ ap (λ (n : ℕ). length (canonical_block done) + n) (length-padded a)

-- after the last attribute, nothing is left to fill
pub filled_end : (done : List Attribute) (block rest : List ℕ) → block ≡ canonical_block done ++ filled rest → rest ≡ []
    → block ≡ canonical_block done
filled_end done block rest is none =
    is ∙ ap (λ (x : List ℕ). canonical_block done ++ filled x) none ∙ append-nil (canonical_block done)

pub length-put : (bytes : List ℕ) (at count : ℕ) → at + count ≤ length bytes
    → length (put_at bytes at (replicate count 0)) ≡ length bytes
length-put bytes at count inside =
    let text : List ℕ = replicate count 0 in
    let size : length text ≡ count = length-replicate count 0 in
    let rest : List ℕ = drop (at + length text) bytes in
    length-append (take at bytes) (text ++ rest)
    ∙ omega (arith, length-append text rest, length-take-le at bytes (omega arith), length-drop (at + length text) bytes, size)

-- a vector whose bytes are written as a slice holds the slice
pub vec_of_slice : (new items : List ℕ) (len : ℕ) → len ≡ length items → length new ≡ length items
    → take len (new ++ drop (length new) items) ≡ new
vec_of_slice new items len whole same = take_at new (drop (length new) items) len (omega arith)
