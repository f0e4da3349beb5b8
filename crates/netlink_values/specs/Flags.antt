-- Flags by their names.
use Rattle.std.specs.Prelude.{ℕ, ◌==◌, ◌++◌, List, [], ◌∷◌, map, codes, false, if◌then◌else◌}
use Rattle.std.specs.Fmt.{digits}
use Rattle.std.specs.Int.Bits.{bit_and, bit_xor}
use denote.Ref.{Bor}

-- a table of flags at run time
abbrev pub names_in : List (ℕ × Bor (List ℕ)) → List (ℕ × List ℕ)
names_in names = map (λ row. (row.0, row.1.now)) names

-- the bits that are left after a flag, which is set if all its bits are
abbrev pub left : ℕ → ℕ → ℕ
left bits rest = if bit_and rest bits == bits then bit_xor rest bits else rest

-- the name of a flag that is set, and a comma if bits are left
abbrev pub flag_text : ℕ × List ℕ → ℕ → List ℕ
flag_text flag rest =
    if bit_and rest flag.0 == flag.0
    then flag.1 ++ (if left flag.0 rest == 0 then [] else codes ",")
    else []

-- bits without a name
abbrev pub rest_text : ℕ → List ℕ
rest_text rest = if rest == 0 then [] else codes "0x" ++ digits 16 false rest

-- the names of the flags that are set, in the order of the table, and the bits that are left
abbrev pub flags_text : List (ℕ × List ℕ) → ℕ → List ℕ
flags_text [] rest = rest_text rest
flags_text (flag ∷ names) rest = flag_text flag rest ++ flags_text names (left flag.0 rest)
