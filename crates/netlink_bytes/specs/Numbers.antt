-- Integers as bytes. A list of bytes is a list of numbers below 256.
use Rattle.std.specs.Prelude.{◌≡◌, ◌≢◌, ◌<◌, ◌≤◌, ℕ, zero, suc, ◌+◌, ◌-◌, ◌*◌, ◌/◌, ◌%◌, ◌^◌, nat_lt, if◌then◌else◌, ℤ, pos, negsuc, ◌-ℤ◌, List, [], ◌∷◌, ◌++◌, length, drop, reverse, slice_index, Result, Ok, Err, IsOk}
use Rattle.netlink_bytes.specs.declared.error.DecodeError.{DecodeError}
use Rattle.netlink_bytes.specs.declared.error.DecodeError.TheVariants.{InvalidNumber, BufferTooSmall}

-- each item is a byte: below 256
abbrev pub IsBytes : List ℕ → Type 0
IsBytes bytes = (i : ℕ) → slice_index bytes i < 256

-- the integer that bytes encode, little-endian: the sum of byte i times 256^i
unfoldable pub number_le : List ℕ → ℕ
number_le [] = 0
number_le (b ∷ bytes) = b + 256 * number_le bytes

-- n modulo 256^w in w bytes, little-endian
unfoldable pub bytes_le : ℕ → ℕ → List ℕ
bytes_le n zero = []
bytes_le n (suc w) = n % 256 ∷ bytes_le (n / 256) w

-- the same, big-endian
unfoldable pub number_be : List ℕ → ℕ
number_be bytes = number_le (reverse bytes)

unfoldable pub bytes_be : ℕ → ℕ → List ℕ
bytes_be n w = reverse (bytes_le n w)

-- the signed integer that n represents in two's complement of w bytes: n, less 256^w if n is at
-- least half of that
unfoldable pub signed : ℕ → ℕ → ℤ
signed w n = if nat_lt (2 * n) (256 ^ w) then pos n else pos n -ℤ pos (256 ^ w)

-- the integer of w bytes that represents z
unfoldable pub unsigned : ℕ → ℤ → ℕ
unsigned w (pos n) = n
unsigned w (negsuc n) = 256 ^ w - suc n

-- z fits in w bytes in two's complement
abbrev pub IsSigned : ℕ → ℤ → Type 0
IsSigned w (pos n) = 2 * n < 256 ^ w
IsSigned w (negsuc n) = 2 * n < 256 ^ w

-- a reader returns the value of exactly w bytes; for any other number of bytes it returns
-- `InvalidNumber` with both sizes
abbrev pub Reads : {A : Type 0} → (List ℕ → A) → ℕ → List ℕ → Result A DecodeError → Type 0
Reads value w bytes result =
    (length bytes ≡ w → result ≡ Ok (value bytes))
    × (length bytes ≢ w → result ≡ Err (InvalidNumber w (length bytes)))

-- a writer puts the encoding in w bytes at the start of the buffer and leaves the rest unchanged;
-- if the buffer has fewer than w bytes, it returns `BufferTooSmall` and leaves the buffer unchanged
abbrev pub Writes : {A : Type 0} → List ℕ → ℕ → List ℕ → List ℕ → Result A DecodeError → Type 0
Writes text w old new result =
    (w ≤ length old → IsOk result × (new ≡ text ++ drop w old))
    × (length old < w → (result ≡ Err (BufferTooSmall (length old) w)) × (new ≡ old))
