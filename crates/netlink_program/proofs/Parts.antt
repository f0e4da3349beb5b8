-- Bytes that are read or written in parts.
use Rattle.std.proofs.Common.{◌≡◌, ◌+◌, ◌≤◌, ◌∙◌, ℕ, List, ◌++◌, Option, ap, arith, drop, le_refl, length, subst, sym, take, take-append-drop}
use Rattle.std.proofs.KnownBytes.{Appends-kept, Appends-trans, Consumes-kept, Consumes-trans}
use Rattle.std.proofs.Math.Seq.{take-append-add}
use Rattle.std.proofs.lemmas.List.{length-take-le, take-append-le, take_all}
use Rattle.std.proofs.lemmas.Slice.{take-put_mid_below}
use borrow.Rule.Slice.PartMut.{post_of, put_mid}
use Rattle.std.specs.Io.KnownBytes.{Appends, Consumes, Keeps}

take_on : (k n : ℕ) (first more : List ℕ) → length first ≡ k → take (k + n) (first ++ more) ≡ first ++ take n more
take_on k n first more size =
    subst (λ (m : ℕ). take (m + n) (first ++ more) ≡ first ++ take n more) size (take-append-add first more n)

-- what was read, and what is read after it in place
pub read_more : (a b c : Option (List ℕ)) (old new : List ℕ) (k n room : ℕ) → k ≤ length old → n ≤ length new
    → Consumes a b (take k old) → Consumes b c (take n new) → Consumes a c (take (k + n) (put_mid k room old new))
read_more a b c old new k n room within fits read more =
    let after : List ℕ = post_of k room old in
    let same : take (k + n) (put_mid k room old new) ≡ take k old ++ take n new =
    take_on k n (take k old) (new ++ after) (length-take-le k old within)
    ∙ ap (λ (l : List ℕ). take k old ++ l) (take-append-le n new after fits) in
    subst (Consumes a c) (sym same) (Consumes-trans a b c (take k old) (take n new) read more)

-- a failed call reads nothing
pub read_none : (a b c : Option (List ℕ)) (old new : List ℕ) (k room : ℕ) → k ≤ length old → Consumes a b (take k old)
    → Keeps b c → Consumes a c (take k (put_mid k room old new))
read_none a b c old new k room within read kept =
    subst (Consumes a c) (sym (take-put_mid_below k room old new k (le_refl k) within))
    (Consumes-kept a b c (take k old) read kept)

-- what was written, and the next part
pub written_more : (a b c : Option (List ℕ)) (bytes : List ℕ) (k n : ℕ) → k ≤ length bytes → Appends a b (take k bytes)
    → Appends b c (take n (drop k bytes)) → Appends a c (take (k + n) bytes)
written_more a b c bytes k n fits wrote more =
    let whole = take_on k n (take k bytes) (drop k bytes) (length-take-le k bytes fits) in
    subst (λ (l : List ℕ). Appends a c (take (k + n) l)) (take-append-drop k bytes)
    (subst (Appends a c) (sym whole) (Appends-trans a b c (take k bytes) (take n (drop k bytes)) wrote more))

-- all is written
pub written_all : (a b c : Option (List ℕ)) (bytes : List ℕ) (n : ℕ) → n ≡ length bytes → Appends a b (take n bytes)
    → Keeps b c → Appends a c bytes
written_all a b c bytes n all wrote kept =
    Appends-kept a b c bytes (subst (Appends a b) (take_all n bytes (omega (arith, all))) wrote) kept

-- a part is written
pub written_part : (a b c : Option (List ℕ)) (bytes : List ℕ) (n : ℕ) → n ≤ length bytes → Appends a b (take n bytes)
    → Keeps b c → (m : ℕ) × (m ≤ length bytes) × Appends a c (take m bytes)
written_part a b c bytes n fits wrote kept = (n, fits, Appends-kept a b c (take n bytes) wrote kept)
