-- Signed numbers of 4 bytes.
use Rattle.std.proofs.Common.{◌≡◌, ◌∙◌, ◌<◌, ◌≤◌, ◌^◌, ap, arith, ℤ, ℕ, zero, suc, List, drop, length, length-take, take}
use Rattle.std.proofs.lemmas.Int.{ints, of_z-to_z}
use Rattle.std.specs.Int.{cast_signed, cast_unsigned, w32}
use Rattle.netlink_packet_core.specs.Fields.{number_at}
use Rattle.netlink_packet_core.specs.NumberLaws.{IsBytes-drop, IsBytes-take, number_le-fits}
use Rattle.netlink_packet_core.specs.Numbers.{IsBytes, number_le, signed}

-- a number of 4 bytes in two's complement is the cast of the number
pub signed_cast : (n : ℕ) → n < 2 ^ 32 → signed 4 n ≡ cast_signed w32 n
unfolding signed
signed_cast n fits = grind (arith, ints)

-- and cast back it is the number
unsigned_cast : (n : ℕ) → n < 2 ^ 32 → cast_unsigned w32 (signed 4 n) ≡ n
unsigned_cast n fits = ap (λ (z : ℤ). cast_unsigned w32 z) (signed_cast n fits) ∙ of_z-to_z w32 n fits

at_most_four : (size n : ℕ) → n < 256 ^ size → size ≤ 4 → n < 2 ^ 32
at_most_four zero n small few = omega (arith, small)
at_most_four (suc zero) n small few = omega (arith, small)
at_most_four (suc (suc zero)) n small few = omega (arith, small)
at_most_four (suc (suc (suc zero))) n small few = omega (arith, small)
at_most_four (suc (suc (suc (suc zero)))) n small few = omega (arith, small)
at_most_four (suc (suc (suc (suc (suc size))))) n small few = absurd (omega (arith, few))

-- a number of 4 bytes, of which some may be missing, fits in 4 bytes
index_fits : (bytes : List ℕ) → IsBytes bytes → number_at 4 4 bytes < 2 ^ 32
index_fits bytes each =
    let part : List ℕ = take 4 (drop 4 bytes) in
    at_most_four (length part) (number_le part) (number_le-fits part (IsBytes-take 4 (drop 4 bytes) (IsBytes-drop 4 bytes each)))
    (omega (arith, length-take 4 (drop 4 bytes)))

-- so the index of a link that is read as a signed number is that number
pub index_cast : (bytes : List ℕ) → IsBytes bytes → cast_unsigned w32 (signed 4 (number_at 4 4 bytes)) ≡ number_at 4 4 bytes
index_cast bytes each = unsigned_cast (number_at 4 4 bytes) (index_fits bytes each)
