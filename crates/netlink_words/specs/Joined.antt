-- A text and its parts.
use Rattle.std.proofs.Common.{◌≡◌, ℕ, List, ◌++◌}
use Rattle.std.proofs.lemmas.List.Sums.{fold-append}
use Rattle.netlink_words.specs.Parts.{with_part, with_parts}

-- the parts of two lists are those of one after those of the other
pub with_parts_append : (text : List ℕ) (parts more : List (List ℕ))
    → with_parts text (parts ++ more) ≡ with_parts (with_parts text parts) more
with_parts_append text parts more = fold-append with_part text parts more
