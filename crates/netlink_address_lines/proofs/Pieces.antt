-- The times of an address, piece by piece.
use Rattle.std.proofs.Common.{◌≡◌, ◌<◌, ◌++◌, arith, ℕ, decimal, List, codes, length, length-append, ◌==◌}
use Rattle.netlink_words.specs.Parts.{keyed, with_part}
use Rattle.netlink_words.specs.Pieces.{chosen_some, keyed_more}
use Rattle.netlink_words.specs.Text.{separated}
use Rattle.netlink_address_lines.specs.AddressFlags.{seconds_text}

seconds_some : (n : ℕ) → 0 < length (seconds_text n)
seconds_some n = chosen_some (n == 4294967295) (codes "forever") (decimal n ++ codes "sec") (omega arith) (omega (arith, length-append (decimal n) (codes "sec")))

pub seconds_more : (text key : List ℕ) (n : ℕ)
    → with_part text (keyed key (seconds_text n)) ≡ (separated (codes " ") text key ++ codes " ") ++ seconds_text n
seconds_more text key n = keyed_more text key (seconds_text n) (seconds_some n)
