-- What reading an extended acknowledgement writes.
use Rattle.std.specs.Prelude.{ℕ, ◌≡◌, ◌+◌, ◌≤◌, ◌<◌, List, ◌++◌, length, take, drop, Option, Some, None}
use Rattle.netlink_replies.specs.Paths.{IsPath}
use Rattle.netlink_c.specs.Parts.{part_of}
use Rattle.netlink_c.specs.declared.frame.Part.{Part}

-- the new part is these bytes, and the result 0; without bytes, the part is the old one, and the
-- result `NO_PLACE`
abbrev pub IsPartOut : Option (List ℕ) → List ℕ → Part → Part → ℕ → Type 0
IsPartOut None bytes old new answer = (answer ≡ 34) × (new ≡ old)
IsPartOut (Some value) bytes old new answer =
    (answer ≡ 0) × (part_of new bytes ≡ value) × (new.offset + new.size ≤ length bytes)

-- the same for an integer
abbrev pub IsNumberOut : Option ℕ → ℕ → ℕ → ℕ → Type 0
IsNumberOut None old new answer = (answer ≡ 34) × (new ≡ old)
IsNumberOut (Some number) old new answer = (answer ≡ 0) × (new ≡ number)

-- the integers are at the start of an array, as far as there is room, and the rest is unchanged;
-- `count` is their number
pub record FillsOut (all old new : List ℕ) (count : ℕ) : Type 0 where
  pub counted : count ≡ length all
  pub written : new ≡ take (length old) all ++ drop (length all) old

-- the kinds of the path to an offset in a block are written; the result says whether all fit
abbrev pub IsPathOut : List ℕ × ℕ → List ℕ → List ℕ → ℕ → ℕ → Type 0
IsPathOut place old new count answer =
    (all : List ℕ) × IsPath place.0 place.1 all × FillsOut all old new count
    × (length all ≤ length old → answer ≡ 0) × (length old < length all → answer ≡ 8)
