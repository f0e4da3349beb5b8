-- Bytes overwritten in place.
use Rattle.std.specs.Prelude.{ℕ, ◌+◌, List, ◌++◌, length, take, drop}

-- bytes, an offset and a text: the bytes with the text written over them at that offset
abbrev pub put_at : List ℕ → ℕ → List ℕ → List ℕ
put_at bytes at text = take at bytes ++ (text ++ drop (at + length text) bytes)
