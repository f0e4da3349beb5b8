-- The fields of a header whose payload may be shorter.
use Rattle.std.proofs.Common.{◌≡◌, ℕ, zero, suc, ◌+◌, ◌-◌, ◌*◌, ◌≤◌, List, [], ◌∷◌, ◌++◌, length, take, drop, replicate, slice_index, slice_range, refl, ap, sym, ◌∙◌, arith, append-nil}
use Rattle.std.proofs.lemmas.List.{drop_all, get_or-drop}
use Rattle.netlink_bytes.specs.Fields.{number_at}
use Rattle.netlink_bytes.specs.Numbers.{number_le}

-- the 4 bytes at an offset, with zeros for those that are missing
abbrev four : ℕ → List ℕ → List ℕ
four at bytes = take 4 (drop at bytes ++ replicate 4 0)

four_front : (bytes : List ℕ)
    → take 4 (bytes ++ replicate 4 0) ≡ slice_index bytes 0 ∷ (slice_index bytes 1 ∷ (slice_index bytes 2 ∷ (slice_index bytes 3 ∷ [])))
four_front [] = refl
four_front (a ∷ []) = refl
four_front (a ∷ (b ∷ [])) = refl
four_front (a ∷ (b ∷ (c ∷ []))) = refl
four_front (a ∷ (b ∷ (c ∷ (d ∷ more)))) = refl

pub four_bytes : (at : ℕ) (bytes : List ℕ)
    → slice_index bytes (at + 0) ∷ (slice_index bytes (at + 1) ∷ (slice_index bytes (at + 2) ∷ (slice_index bytes (at + 3) ∷ [])))
    ≡ four at bytes
four_bytes at bytes =
    rw (sym (get_or-drop at bytes 0 0), sym (get_or-drop at bytes 1 0), sym (get_or-drop at bytes 2 0), sym (get_or-drop at bytes 3 0))
    (sym (four_front (drop at bytes)))

-- the same for 8 bytes
abbrev eight : ℕ → List ℕ → List ℕ
eight at bytes = take 8 (drop at bytes ++ replicate 8 0)

eight_front : (bytes : List ℕ)
    → take 8 (bytes ++ replicate 8 0) ≡ slice_index bytes 0 ∷ (slice_index bytes 1 ∷ (slice_index bytes 2 ∷ (slice_index bytes 3 ∷ (slice_index bytes 4 ∷ (slice_index bytes 5 ∷ (slice_index bytes 6 ∷ (slice_index bytes 7 ∷ [])))))))
eight_front [] = refl
eight_front (b0 ∷ []) = refl
eight_front (b0 ∷ (b1 ∷ [])) = refl
eight_front (b0 ∷ (b1 ∷ (b2 ∷ []))) = refl
eight_front (b0 ∷ (b1 ∷ (b2 ∷ (b3 ∷ [])))) = refl
eight_front (b0 ∷ (b1 ∷ (b2 ∷ (b3 ∷ (b4 ∷ []))))) = refl
eight_front (b0 ∷ (b1 ∷ (b2 ∷ (b3 ∷ (b4 ∷ (b5 ∷ [])))))) = refl
eight_front (b0 ∷ (b1 ∷ (b2 ∷ (b3 ∷ (b4 ∷ (b5 ∷ (b6 ∷ []))))))) = refl
eight_front (b0 ∷ (b1 ∷ (b2 ∷ (b3 ∷ (b4 ∷ (b5 ∷ (b6 ∷ (b7 ∷ more)))))))) = refl

pub eight_bytes : (at : ℕ) (bytes : List ℕ)
    → slice_index bytes (at + 0) ∷ (slice_index bytes (at + 1) ∷ (slice_index bytes (at + 2) ∷ (slice_index bytes (at + 3) ∷ (slice_index bytes (at + 4) ∷ (slice_index bytes (at + 5) ∷ (slice_index bytes (at + 6) ∷ (slice_index bytes (at + 7) ∷ [])))))))
    ≡ eight at bytes
eight_bytes at bytes =
    rw (sym (get_or-drop at bytes 0 0), sym (get_or-drop at bytes 1 0), sym (get_or-drop at bytes 2 0), sym (get_or-drop at bytes 3 0), sym (get_or-drop at bytes 4 0), sym (get_or-drop at bytes 5 0), sym (get_or-drop at bytes 6 0), sym (get_or-drop at bytes 7 0))
    (sym (eight_front (drop at bytes)))

-- zeros at the end do not change a number
zeros_number : (w k : ℕ) → number_le (take w (replicate k 0)) ≡ 0
unfolding number_le
zeros_number zero k = refl
zeros_number (suc w) zero = refl
zeros_number (suc w) (suc k) = ap (λ (n : ℕ). 0 + 256 * n) (zeros_number w k)

filled_number : (w k : ℕ) (bytes : List ℕ) → number_le (take w (bytes ++ replicate k 0)) ≡ number_le (take w bytes)
unfolding number_le
filled_number zero k bytes = refl
filled_number (suc w) k [] = zeros_number (suc w) k
filled_number (suc w) k (b ∷ bytes) = ap (λ (n : ℕ). b + 256 * n) (filled_number w k bytes)

width : (at w : ℕ) (bytes : List ℕ) → number_at at w bytes ≡ number_le (take w (drop at bytes))
width at w bytes = let n : at + w - at ≡ w = omega arith in ap (λ (k : ℕ). number_le (take k (drop at bytes))) n

pub four_number : (at : ℕ) (bytes : List ℕ) → number_le (four at bytes) ≡ number_at at 4 bytes
four_number at bytes = filled_number 4 4 (drop at bytes) ∙ sym (width at 4 bytes)

pub eight_number : (at : ℕ) (bytes : List ℕ) → number_le (eight at bytes) ≡ number_at at 8 bytes
eight_number at bytes = filled_number 8 8 (drop at bytes) ∙ sym (width at 8 bytes)

two_front : (bytes : List ℕ) → take 2 (take 4 bytes) ≡ take 2 bytes
two_front [] = refl
two_front (a ∷ []) = refl
two_front (a ∷ (b ∷ more)) = refl

pub front_number : (at : ℕ) (bytes : List ℕ) → number_le (take 2 (four at bytes)) ≡ number_at at 2 bytes
front_number at bytes =
    ap number_le (two_front (drop at bytes ++ replicate 4 0)) ∙ filled_number 2 4 (drop at bytes) ∙ sym (width at 2 bytes)

-- bytes of a header, with the zeros that are missing
zeros_same : (w m k : ℕ) → w ≤ m → w ≤ k → take {A = ℕ} w (replicate m 0) ≡ take w (replicate k 0)
zeros_same zero m k less few = refl
zeros_same (suc w) zero k less few = absurd (omega arith)
zeros_same (suc w) (suc m) zero less few = absurd (omega arith)
zeros_same (suc w) (suc m) (suc k) less few =
    ap (λ (more : List ℕ). 0 ∷ more) (zeros_same w m k (omega arith) (omega arith))

front_same : (w m k : ℕ) (bytes : List ℕ) → w ≤ length bytes + m → w ≤ k
    → take w (bytes ++ replicate m 0) ≡ take w (bytes ++ replicate k 0)
front_same w m k [] less few = zeros_same w m k (omega (arith, less)) few
front_same zero m k (b ∷ bytes) less few = refl
front_same (suc w) m k (b ∷ bytes) less few =
    ap (λ (more : List ℕ). b ∷ more) (front_same w m k bytes (omega arith) (omega arith))

range_same : (at w m k : ℕ) (bytes : List ℕ) → at + w ≤ length bytes + m → w ≤ k
    → take w (drop at (bytes ++ replicate m 0)) ≡ take w (drop at bytes ++ replicate k 0)
range_same zero w m k bytes less few = front_same w m k bytes (omega (arith, less)) few
range_same (suc at) w zero k [] less few = absurd (omega arith)
range_same (suc at) w (suc m) k [] less few =
    range_same at w m k [] (omega arith) few
    ∙ ap (λ (x : List ℕ). take w (x ++ replicate k 0)) (drop_all at [] (omega arith))
range_same (suc at) w m k (b ∷ bytes) less few = range_same at w m k bytes (omega arith) few

range_width : (at w : ℕ) (bytes : List ℕ) → slice_range bytes at (at + w) ≡ take w (drop at bytes)
range_width at w bytes = let n : at + w - at ≡ w = omega arith in ap (λ (k : ℕ). take k (drop at bytes)) n

pub four_range : (at m : ℕ) (bytes : List ℕ) → at + 4 ≤ length bytes + m
    → four at bytes ≡ slice_range (bytes ++ replicate m 0) at (at + 4)
four_range at m bytes less =
    sym (range_width at 4 (bytes ++ replicate m 0) ∙ range_same at 4 m 4 bytes less (omega arith))

pub eight_range : (at m : ℕ) (bytes : List ℕ) → at + 8 ≤ length bytes + m
    → eight at bytes ≡ slice_range (bytes ++ replicate m 0) at (at + 8)
eight_range at m bytes less =
    sym (range_width at 8 (bytes ++ replicate m 0) ∙ range_same at 8 m 8 bytes less (omega arith))

pub front_bytes : (at m : ℕ) (bytes : List ℕ) → at + 2 ≤ length bytes + m
    → take 2 (four at bytes) ≡ slice_range (bytes ++ replicate m 0) at (at + 2)
front_bytes at m bytes less =
    two_front (drop at bytes ++ replicate 4 0)
    ∙ sym (range_width at 2 (bytes ++ replicate m 0) ∙ range_same at 2 m 4 bytes less (omega arith))

-- a header that is whole
pub none_missing : (m : ℕ) (bytes : List ℕ) → m ≡ 0 → bytes ++ replicate m 0 ≡ bytes
none_missing m bytes none = ap (λ (n : ℕ). bytes ++ replicate n 0) none ∙ append-nil bytes

-- a field that the bytes contain
pub four_whole : (at : ℕ) (bytes : List ℕ) → at + 4 ≤ length bytes → four at bytes ≡ slice_range bytes at (at + 4)
four_whole at bytes inside =
    four_range at 0 bytes (omega (arith, inside)) ∙ ap (λ (x : List ℕ). slice_range x at (at + 4)) (append-nil bytes)

pub front_whole : (at : ℕ) (bytes : List ℕ) → at + 2 ≤ length bytes
    → take 2 (four at bytes) ≡ slice_range bytes at (at + 2)
front_whole at bytes inside =
    front_bytes at 0 bytes (omega (arith, inside)) ∙ ap (λ (x : List ℕ). slice_range x at (at + 2)) (append-nil bytes)

pub eight_whole : (at : ℕ) (bytes : List ℕ) → at + 8 ≤ length bytes → eight at bytes ≡ slice_range bytes at (at + 8)
eight_whole at bytes inside =
    eight_range at 0 bytes (omega (arith, inside)) ∙ ap (λ (x : List ℕ). slice_range x at (at + 8)) (append-nil bytes)
