-- The flags of a table, one after another.
use Rattle.std.proofs.Common.{◌≡◌, ◌<◌, ◌≤◌, ◌+◌, ◌++◌, ℕ, List, ap, drop, get_or, length}
use Rattle.std.proofs.lemmas.List.{at_drop_more, drop_all}
use Rattle.netlink_values.specs.Flags.{flag_text, flags_text, left, names_in, rest_text}
use denote.Ref.{Bor}

-- the next flag
pub next_flag : (table : List (ℕ × Bor (List ℕ))) (i rest : ℕ) (d : ℕ × Bor (List ℕ)) → i < length table
    → flags_text (names_in (drop i table)) rest
    ≡ flag_text ((get_or table i d).0, (get_or table i d).1.now) rest
    ++ flags_text (names_in (drop (i + 1) table)) (left (get_or table i d).0 rest)
next_flag table i rest d inside =
    at_drop_more (λ rows. flags_text (names_in rows) rest) table i d inside

-- no flag is left
pub no_flag : (table : List (ℕ × Bor (List ℕ))) (i rest : ℕ) → length table ≤ i
    → flags_text (names_in (drop i table)) rest ≡ rest_text rest
no_flag table i rest end = ap (λ (rows : List (ℕ × Bor (List ℕ))). flags_text (names_in rows) rest) (drop_all i table end)
