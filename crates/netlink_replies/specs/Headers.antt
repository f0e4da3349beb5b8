-- The flags of a header.
use Rattle.std.specs.Prelude.{ℕ, Bool, not, nat_eq}
use Rattle.std.specs.Int.Bits.{bit_and}

-- the flags have a bit of `flag`
abbrev pub has_flag : ℕ → ℕ → Bool
has_flag flags flag = not (nat_eq (bit_and flags flag) 0)
