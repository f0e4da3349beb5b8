-- The bytes without a zero at their end, by cases on the last byte.
use Rattle.std.proofs.Common.{◌≡◌, ◌<◌, ℕ, zero, suc, List, [], ◌∷◌, length, take, get_or, refl, ap, arith}
use Rattle.netlink_bytes.specs.Text.{without_last_zero}

pub last_is_zero : (bytes : List ℕ) (n : ℕ) → length bytes ≡ suc n → get_or bytes n 0 ≡ 0 → take n bytes ≡ without_last_zero bytes
last_is_zero [] n size last = absurd (omega arith)
last_is_zero (zero ∷ []) zero size last = refl
last_is_zero (suc b ∷ []) zero size last = absurd (omega arith)
last_is_zero (b ∷ []) (suc n) size last = absurd (omega arith)
last_is_zero (b ∷ c ∷ bytes) zero size last = absurd (omega arith)
last_is_zero (zero ∷ c ∷ bytes) (suc n) size last = ap (λ rest. 0 ∷ rest) (last_is_zero (c ∷ bytes) n (omega arith) last)
last_is_zero (suc b ∷ c ∷ bytes) (suc n) size last = ap (λ rest. suc b ∷ rest) (last_is_zero (c ∷ bytes) n (omega arith) last)

pub last_is_other : (bytes : List ℕ) (n : ℕ) → length bytes ≡ suc n → 0 < get_or bytes n 0 → bytes ≡ without_last_zero bytes
last_is_other [] n size last = absurd (omega arith)
last_is_other (zero ∷ []) zero size last = absurd (omega arith)
last_is_other (suc b ∷ []) zero size last = refl
last_is_other (b ∷ []) (suc n) size last = absurd (omega arith)
last_is_other (b ∷ c ∷ bytes) zero size last = absurd (omega arith)
last_is_other (zero ∷ c ∷ bytes) (suc n) size last = ap (λ rest. 0 ∷ rest) (last_is_other (c ∷ bytes) n (omega arith) last)
last_is_other (suc b ∷ c ∷ bytes) (suc n) size last = ap (λ rest. suc b ∷ rest) (last_is_other (c ∷ bytes) n (omega arith) last)
