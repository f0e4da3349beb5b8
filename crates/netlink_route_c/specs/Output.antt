-- What is written at the start of a buffer.
use Rattle.std.specs.Prelude.{◌≡◌, ◌≢◌, ◌<◌, ◌≤◌, ◌⊎◌, ℕ, List, take, drop, length, None}
use Rattle.netlink_family.specs.Show.{message_text}
use Rattle.netlink_family.specs.Tables.{table_error}
use Rattle.netlink_family.specs.declared.family.Table.{Ghosts}
use Rattle.netlink_route_c.specs.Errors.{Refuses}
use Rattle.netlink_route_c.specs.declared.error.ErrorNumbers.{ErrorNumbers}

-- `text` is at the start of the buffer, and the rest is unchanged; or there is no room, and the
-- buffer is unchanged. In both cases `size` is the size of `text`.
pub record CopiesOut (text buffer new : List ℕ) (size answer : ℕ) : Type 0 where
  pub counted : size ≡ length text
  pub written : length text ≤ length buffer → (answer ≡ 0) × (take size new ≡ text)
      × (drop size new ≡ drop size buffer)
  pub no_room : length buffer < length text → (answer ≡ 8) × (new ≡ buffer)

-- the text is copied out, or the allocation for it failed and the buffer is unchanged
abbrev pub IsTextOut : List ℕ → List ℕ → List ℕ → ℕ → ℕ → Type 0
IsTextOut text buffer new size answer =
    CopiesOut text buffer new size answer ⊎ ((answer ≡ 16) × (new ≡ buffer))

-- a payload without an error is written as text, and of any other its error
pub record Shows {F : Type 0} (table : Ghosts F) (t : ℕ) (payload buffer new : List ℕ) (size_old size : ℕ)
    (old error : ErrorNumbers) (answer : ℕ) : Type 0 where
  pub text : table_error table t payload ≡ None
      → IsTextOut (message_text (table.header_len t) (table.fields t) (table.rows t) t payload) buffer new size answer
  pub unfaulted : table_error table t payload ≡ None → error ≡ old
  pub refuses : table_error table t payload ≢ None
      → Refuses (table_error table t payload) answer error × (size ≡ size_old)
  pub unchanged : answer ≢ 0 → new ≡ buffer
