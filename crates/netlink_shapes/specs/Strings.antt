-- Strings with or without a NUL at the end.
use Rattle.std.specs.Prelude.{ℕ, zero, suc, ◌≡◌, ◌⊎◌, Bool, true, false, List, [], ◌∷◌, ◌++◌, take, refl}
use Rattle.std.proofs.Common.{ap, inl, inr}

-- the last byte is the only NUL
abbrev pub nul_terminated : List ℕ → Bool
nul_terminated [] = false
nul_terminated (zero ∷ []) = true
nul_terminated (zero ∷ b ∷ more) = false
nul_terminated (suc b ∷ more) = nul_terminated more

-- no byte but the last may be NUL
abbrev pub nul_only_last : List ℕ → Bool
nul_only_last [] = true
nul_only_last (zero ∷ []) = true
nul_only_last (zero ∷ b ∷ more) = false
nul_only_last (suc b ∷ more) = nul_only_last more

-- the offset of the first NUL, or the length if there is none
abbrev pub nul_offset : List ℕ → ℕ
nul_offset [] = 0
nul_offset (zero ∷ more) = 0
nul_offset (suc b ∷ more) = suc (nul_offset more)

-- the bytes before it
abbrev pub until_nul : List ℕ → List ℕ
until_nul value = take (nul_offset value) value

abbrev pub has_no_nul : List ℕ → Bool
has_no_nul [] = true
has_no_nul (zero ∷ more) = false
has_no_nul (suc b ∷ more) = has_no_nul more

pub until_nul_has_none : (value : List ℕ) → has_no_nul (until_nul value) ≡ true
until_nul_has_none [] = refl
until_nul_has_none (zero ∷ more) = refl
until_nul_has_none (suc b ∷ more) = until_nul_has_none more

longer : (b : ℕ) (more text : List ℕ) → (more ≡ text) ⊎ (more ≡ text ++ (0 ∷ []))
    → (b ∷ more ≡ b ∷ text) ⊎ (b ∷ more ≡ (b ∷ text) ++ (0 ∷ []))
longer b more text either = elim either [
  | inl same ↦ inl (ap (λ (x : List ℕ). b ∷ x) same)
  | inr nul_after ↦ inr (ap (λ (x : List ℕ). b ∷ x) nul_after)
]

-- a string is the whole value, or all of it but a NUL at its end
pub until_nul_whole : (value : List ℕ) → nul_only_last value ≡ true
    → (value ≡ until_nul value) ⊎ (value ≡ until_nul value ++ (0 ∷ []))
until_nul_whole [] is = inl refl
until_nul_whole (zero ∷ []) is = inr refl
until_nul_whole (zero ∷ b ∷ more) is = absurd (cc)
until_nul_whole (suc b ∷ more) is = longer (suc b) more (until_nul more) (until_nul_whole more is)
