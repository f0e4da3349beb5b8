-- Parts of a value.
use Rattle.std.specs.Prelude.{ℕ, ◌+◌, List, drop, length, nat_le, take, Option, Some, None, if◌then◌else◌}

-- this number of bytes at an offset, if the bytes do not end before
abbrev pub part_of : List ℕ → ℕ → ℕ → Option (List ℕ)
part_of bytes at size = if nat_le (at + size) (length bytes) then Some (take size (drop at bytes)) else None
