-- Strings as bytes, and bytes and integers as text.
use Rattle.std.specs.Prelude.{ℕ, zero, ◌+◌, ◌/◌, ◌%◌, nat_lt, if◌then◌else◌, List, [], ◌∷◌, ◌++◌, codes, decimal}

-- the bytes without the last one if it is zero
abbrev pub without_last_zero : List ℕ → List ℕ
without_last_zero [] = []
without_last_zero (zero ∷ []) = []
without_last_zero (b ∷ bytes) = b ∷ without_last_zero bytes

-- a hexadecimal digit, in lower case
abbrev pub hex_digit : ℕ → ℕ
hex_digit n = if nat_lt n 10 then 48 + n else 87 + n

-- a byte as two hexadecimal digits
abbrev pub hex_pair : ℕ → List ℕ
hex_pair b = hex_digit (b / 16) ∷ (hex_digit (b % 16) ∷ [])

-- bytes as two hexadecimal digits each
unfoldable pub hex_digits : List ℕ → List ℕ
hex_digits [] = []
hex_digits (b ∷ bytes) = hex_digit (b / 16) ∷ (hex_digit (b % 16) ∷ hex_digits bytes)

-- bytes as text: two hexadecimal digits each, or `-` if there are none
abbrev pub hex_text : List ℕ → List ℕ
hex_text [] = codes "-"
hex_text (b ∷ bytes) = hex_digits (b ∷ bytes)

-- a line with a name and a number in decimal; 10 is a line feed
abbrev pub number_line : List ℕ → ℕ → List ℕ
number_line name n = name ++ (decimal n ++ (10 ∷ []))
