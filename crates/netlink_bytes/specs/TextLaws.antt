-- Laws about bytes as text, for callers to cite.
use Rattle.std.specs.Prelude.{◌≡◌, ◌<◌, ℕ, zero, suc, ◌*◌, ◌/◌, ◌%◌, List, [], ◌∷◌, ◌++◌, length, take, slice_index, refl}
use Rattle.std.proofs.Common.{ap, arith}
use Rattle.netlink_bytes.specs.Text.{hex_digit, hex_digits, hex_pair}

-- two digits per byte
pub length-hex_digits : (bytes : List ℕ) → length (hex_digits bytes) ≡ length bytes * 2
unfolding hex_digits
length-hex_digits [] = refl
length-hex_digits (b ∷ bytes) = let more = length-hex_digits bytes in omega (arith, more)

-- the digits of one more byte
pub hex_digits-take : (bytes : List ℕ) (i : ℕ) → i < length bytes
    → hex_digits (take (suc i) bytes)
    ≡ hex_digits (take i bytes) ++ hex_pair (slice_index bytes i)
unfolding hex_digits
hex_digits-take [] i less = absurd (omega arith)
hex_digits-take (b ∷ bytes) zero less = refl
hex_digits-take (b ∷ bytes) (suc i) less =
    ap (λ (more : List ℕ). hex_digit (b / 16) ∷ (hex_digit (b % 16) ∷ more))
    (hex_digits-take bytes i (omega arith))
