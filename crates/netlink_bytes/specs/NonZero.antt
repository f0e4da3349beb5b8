-- An integer that is not zero.
use Rattle.std.specs.Prelude.{ℤ}
use Rattle.netlink_bytes.specs.declared.nonzero.NonZeroI32.{NonZeroI32}

-- the number that it holds
abbrev pub number_of : NonZeroI32 → ℤ
number_of n = n.value
