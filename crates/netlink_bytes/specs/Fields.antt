-- Integers at byte offsets, and bytes whose fields are read and written again.
use Rattle.std.specs.Prelude.{◌≡◌, ◌<◌, ◌≤◌, ℕ, ◌+◌, ◌-◌, ◌^◌, List, [], ◌∷◌, ◌++◌, length, slice_range, take, drop, sum}
use Rattle.std.proofs.Common.{ap, arith, sym, ◌∙◌, append_assoc, length-drop}
use Rattle.std.proofs.lemmas.List.{drop-drop, drop_at, length-take-le}
use Rattle.std.proofs.lemmas.List.Sums.{sum_by-cons}
use Rattle.netlink_bytes.specs.Numbers.{IsBytes, number_le, bytes_le}
use Rattle.netlink_bytes.specs.NumberLaws.{IsBytes-drop, front-fits, number_le-bytes_le, split_number, take-bytes_le}
use Rattle.netlink_bytes.specs.Storage.{put_at}

-- the integer in the w bytes at an offset
abbrev pub number_at : ℕ → ℕ → List ℕ → ℕ
number_at at w bytes = number_le (slice_range bytes at (at + w))

-- consecutive fields of these widths, starting at an offset, read and written again
abbrev pub fields_at : ℕ → List ℕ → List ℕ → List ℕ
fields_at at [] bytes = []
fields_at at (w ∷ []) bytes = bytes_le (number_at at w bytes) w
fields_at at (w ∷ v ∷ widths) bytes =
    bytes_le (number_at at w bytes) w ++ fields_at (at + w) (v ∷ widths) bytes

-- reading fields and writing them again gives the bytes that were read
abbrev pub FieldsKept : Type 0
FieldsKept =
    (at : ℕ) (widths bytes : List ℕ) → IsBytes bytes → at + sum widths ≤ length bytes
    → drop at bytes ≡ fields_at at widths bytes ++ drop (at + sum widths) bytes

-- an integer written at an offset is what is read there
abbrev pub PlacedIsRead : Type 0
PlacedIsRead =
    (bytes : List ℕ) (at w n : ℕ) → at ≤ length bytes → n < 256 ^ w
    → number_at at w (put_at bytes at (bytes_le n w)) ≡ n

-- ---- lemmas for callers to cite

number_at-drop : (at w : ℕ) (bytes : List ℕ)
    → number_at at w bytes ≡ number_le (take w (drop at bytes))
number_at-drop at w bytes =
    let width : at + w - at ≡ w = omega arith in
    ap (λ (k : ℕ). number_le (take k (drop at bytes))) width

enough : (at w : ℕ) (bytes : List ℕ) → at + w ≤ length bytes → w ≤ length (drop at bytes)
enough at w bytes long = omega (arith, length-drop at bytes)

-- the integer at an offset fits its width
pub number_at-fits : (at w : ℕ) (bytes : List ℕ) → IsBytes bytes → at + w ≤ length bytes
    → number_at at w bytes < 256 ^ w
number_at-fits at w bytes each long =
    let fits = front-fits w (drop at bytes) (IsBytes-drop at bytes each) (enough at w bytes long) in
    rw (number_at-drop at w bytes) fits

-- the bytes from an offset are the encoding of the integer there and what follows it
pub number_at-text : (at w : ℕ) (bytes : List ℕ) → IsBytes bytes → at + w ≤ length bytes
    → drop at bytes ≡ bytes_le (number_at at w bytes) w ++ drop (at + w) bytes
number_at-text at w bytes each long =
    split_number w (drop at bytes) (IsBytes-drop at bytes each) (enough at w bytes long)
    ∙ ap (λ (more : List ℕ). bytes_le (number_le (take w (drop at bytes))) w ++ more)
    (drop-drop w at bytes)
    ∙ ap (λ (n : ℕ). bytes_le n w ++ drop (at + w) bytes) (sym (number_at-drop at w bytes))

sum-cons : (w : ℕ) (widths : List ℕ) → sum (w ∷ widths) ≡ w + sum widths
sum-cons w widths = sum_by-cons (λ (n : ℕ). n) w widths

pub fields_kept : FieldsKept
fields_kept at [] bytes each long = ap (λ (n : ℕ). drop n bytes) (omega arith)
fields_kept at (w ∷ []) bytes each long =
    let whole = sum-cons w [] in
    number_at-text at w bytes each (omega (arith, whole, long))
    ∙ ap (λ (n : ℕ). bytes_le (number_at at w bytes) w ++ drop n bytes) (omega (arith, whole))
fields_kept at (w ∷ v ∷ widths) bytes each long =
    let whole = sum-cons w (v ∷ widths) in
    let rest = fields_kept (at + w) (v ∷ widths) bytes each (omega (arith, whole, long)) in
    let end : at + w + sum (v ∷ widths) ≡ at + sum (w ∷ v ∷ widths) = omega (arith, whole) in
    number_at-text at w bytes each (omega (arith, whole, long))
    ∙ ap (λ (more : List ℕ). bytes_le (number_at at w bytes) w ++ more)
    (rest ∙ ap (λ (n : ℕ). fields_at (at + w) (v ∷ widths) bytes ++ drop n bytes) end)
    ∙ sym (append_assoc (bytes_le (number_at at w bytes) w) (fields_at (at + w) (v ∷ widths) bytes)
    (drop (at + sum (w ∷ v ∷ widths)) bytes))

pub placed_is_read : PlacedIsRead
placed_is_read bytes at w n inside fits =
    let front : length (take at bytes) ≡ at = length-take-le at bytes inside in
    let rest : List ℕ = drop (at + length (bytes_le n w)) bytes in
    let from_there : drop at (put_at bytes at (bytes_le n w)) ≡ bytes_le n w ++ rest =
    drop_at (take at bytes) (bytes_le n w ++ rest) at front in
    number_at-drop at w (put_at bytes at (bytes_le n w))
    ∙ ap (λ (more : List ℕ). number_le (take w more)) from_there
    ∙ ap number_le (take-bytes_le n w rest) ∙ number_le-bytes_le n w fits
