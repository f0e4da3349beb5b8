-- A payload of 1 to 4 bytes in place of header and attributes, such as `struct rtgenmsg`.
use Rattle.std.specs.Prelude.{ℕ, zero, suc, ◌-◌, nat_le, nat_lt, Bool, true, ◌&&◌, List, ◌++◌, length, take, replicate, bytes_eq}

-- the payload has 1 to 4 bytes, fewer than the header, and the message type allows that
abbrev pub is_short : Bool → ℕ → List ℕ → Bool
is_short allows size payload =
    allows && (nat_lt (length payload) size && (nat_le (length payload) 4 && nat_lt 0 (length payload)))

-- a short payload and zeros, up to the size of the header
abbrev pub filled : ℕ → List ℕ → List ℕ
filled size payload = payload ++ replicate (size - length payload) 0

-- the payload of a message: the first n of its bytes, or all of them if n is 0
abbrev pub sent : ℕ → List ℕ → List ℕ
sent zero bytes = bytes
sent (suc n) bytes = take (suc n) bytes

-- n is 0, or the first n bytes are a short payload and the other bytes of the header are 0
abbrev pub is_cut : Bool → ℕ → ℕ → List ℕ → Bool
is_cut allows size zero bytes = true
is_cut allows size (suc n) bytes =
    nat_le (suc n) (length bytes)
    && (is_short allows size (take (suc n) bytes) && bytes_eq bytes (filled size (take (suc n) bytes)))
