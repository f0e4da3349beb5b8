-- Sequence numbers.
use Rattle.std.specs.Prelude.{ℕ, ◌+◌, nat_lt, if◌then◌else◌}

-- the next sequence number: never 0, and 1 after the largest
abbrev pub number_after : ℕ → ℕ
number_after last = if nat_lt last 4294967295 then last + 1 else 1
