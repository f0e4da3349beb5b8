-- Facts about integers and their encodings at every width.
use Rattle.std.specs.Prelude.{◌≡◌, ◌<◌, ◌+◌, ◌*◌, ◌%◌, ◌^◌, ℕ, ℤ, suc, List, [], ◌∷◌, ◌++◌, length, reverse, take}
use Rattle.netlink_bytes.specs.Numbers.{IsBytes, IsSigned, number_le, number_be, bytes_le, bytes_be, signed, unsigned}

-- byte 0 times 256^i, plus byte 1 times 256^(i + 1), and so on
abbrev pub weighed : ℕ → List ℕ → ℕ
weighed i [] = 0
weighed i (b ∷ bytes) = b * 256 ^ i + weighed (suc i) bytes

-- bytes encode the sum of each byte times the power for its position
abbrev pub NumberIsSum : Type 0
NumberIsSum =
    (bytes : List ℕ) → (number_le bytes ≡ weighed 0 bytes)
    × (number_be bytes ≡ weighed 0 (reverse bytes))

-- an encoding in w bytes is a list of w bytes
abbrev pub TextIsBytes : Type 0
TextIsBytes =
    (n w : ℕ) → (length (bytes_le n w) ≡ w) × (length (bytes_be n w) ≡ w) × IsBytes (bytes_le n w)
    × IsBytes (bytes_be n w)

-- an encoding in w bytes decodes to n modulo 256^w
abbrev pub TextReadsBack : Type 0
TextReadsBack =
    (n w : ℕ) → (number_le (bytes_le n w) ≡ n % 256 ^ w) × (number_be (bytes_be n w) ≡ n % 256 ^ w)

-- encoding what w bytes decode to, which is less than 256^w, gives those bytes
abbrev pub BytesReadBack : Type 0
BytesReadBack =
    (bytes : List ℕ) (w : ℕ) → length bytes ≡ w → IsBytes bytes
    → (bytes_le (number_le bytes) w ≡ bytes) × (bytes_be (number_be bytes) w ≡ bytes)
    × (number_le bytes < 256 ^ w) × (number_be bytes < 256 ^ w)

-- a signed integer and the unsigned one that represents it determine each other, at each width of
-- at least one byte
abbrev pub SignedReadsBack : Type 0
SignedReadsBack =
    (w : ℕ) (z : ℤ) → IsSigned (suc w) z
    → (unsigned (suc w) z < 256 ^ suc w) × (signed (suc w) (unsigned (suc w) z) ≡ z)

abbrev pub UnsignedReadsBack : Type 0
UnsignedReadsBack =
    (w n : ℕ) → n < 256 ^ suc w
    → IsSigned (suc w) (signed (suc w) n) × (unsigned (suc w) (signed (suc w) n) ≡ n)

-- what a writer puts at the start of a buffer is what a reader reads, whatever follows
abbrev pub WrittenIsRead : Type 0
WrittenIsRead =
    (n w : ℕ) (rest : List ℕ) → n < 256 ^ w
    → (number_le (take w (bytes_le n w ++ rest)) ≡ n)
    × (number_be (take w (bytes_be n w ++ rest)) ≡ n)

abbrev pub WrittenSignedIsRead : Type 0
WrittenSignedIsRead =
    (w : ℕ) (z : ℤ) (rest : List ℕ) → IsSigned (suc w) z
    → (signed (suc w) (number_le (take (suc w) (bytes_le (unsigned (suc w) z) (suc w) ++ rest)))
    ≡ z)
    × (signed (suc w) (number_be (take (suc w) (bytes_be (unsigned (suc w) z) (suc w) ++ rest)))
    ≡ z)
