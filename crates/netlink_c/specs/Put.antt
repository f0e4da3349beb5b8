-- Attributes that are put into a buffer at a cursor.
use Rattle.std.specs.Prelude.{◌≡◌, ◌≢◌, ℕ, ◌+◌, ◌<◌, ◌≤◌, List, ◌∷◌, [], ◌++◌, drop, length, slice_range}
use Rattle.netlink_packet_core.specs.Attribute.{Attribute, padded, padded_size, value_max}
use Rattle.netlink_packet_core.specs.Block.{canonical_block}
use Rattle.netlink_packet_core.specs.Storage.{put_at}
use Rattle.netlink_packet_core.specs.Walk.{Starts}

-- what putting an attribute returns: `TOO_LONG`, `NO_ROOM` or 0
pub record IsPutResult (a : Attribute) (buffer : List ℕ) (at answer : ℕ) : Type 0 where
  pub too_long : value_max < length a.value → answer ≡ 33
  pub no_room : length a.value ≤ value_max → length buffer < at + padded_size a → answer ≡ 8
  pub done : length a.value ≤ value_max → at + padded_size a ≤ length buffer → answer ≡ 0

-- the encoded attribute is in the buffer at the old cursor, no other byte is changed, and the
-- cursor has moved past it
pub record PutsAttribute (a : Attribute) (buffer : List ℕ) (at : ℕ) (new : List ℕ)
    (next : ℕ) : Type 0 where
  pub bytes : new ≡ put_at buffer at (padded a)
  pub cursor : next ≡ at + padded_size a

-- a canonical block that ended at the cursor is one attribute longer
abbrev pub GrowsBlock : Attribute → List ℕ → ℕ → List ℕ → ℕ → Type 0
GrowsBlock a buffer at new next =
    (start : ℕ) (all : List Attribute) → start ≤ at → slice_range buffer start at
    ≡ canonical_block all → slice_range new start next ≡ canonical_block (all ++ a ∷ [])

-- what putting an attribute at a cursor does, and what it returns: if that is 0, the attribute is
-- there and is read back, and otherwise nothing has changed
pub record Puts (a : Attribute) (buffer : List ℕ) (at : ℕ) (new : List ℕ) (next answer : ℕ)
    : Type 0 where
  pub answers : IsPutResult a buffer at answer
  pub written : answer ≡ 0 → PutsAttribute a buffer at new next
  pub block : answer ≡ 0 → GrowsBlock a buffer at new next
  pub reads_back : answer ≡ 0 → Starts (drop at new) a (drop next new)
  pub unchanged : answer ≢ 0 → (new ≡ buffer) × (next ≡ at)
