-- What the basic traits require of a caller.
use Rattle.std.specs.Prelude.{◌≡◌, ◌≤◌, ℕ, Bool, true, false}

-- whether longer buffers are accepted, the size of an encoding and that of a buffer: the buffer is
-- accepted
abbrev pub HasRoom : Bool → ℕ → ℕ → Type 0
HasRoom true size room = size ≤ room
HasRoom false size room = room ≡ size
