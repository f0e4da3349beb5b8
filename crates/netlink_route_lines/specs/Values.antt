-- The values of attributes.
use Rattle.std.specs.Prelude.{ℕ, List, Option, slice_index}
use Rattle.std.specs.Option.{option_map}
use Rattle.netlink_family.specs.Finding.{found_in}
use Rattle.netlink_packet_core.specs.Numbers.{number_le}
use Rattle.netlink_words.specs.Parts.{or_empty}

-- the first attribute of a kind, as bytes, as a number of one byte, and as a number of native byte
-- order
abbrev pub value_of : List ℕ → ℕ → List ℕ
value_of block kind = or_empty (found_in block kind)

abbrev pub byte_of : List ℕ → ℕ → Option ℕ
byte_of block kind = option_map (λ value. slice_index value 0) (found_in block kind)

abbrev pub number_of : List ℕ → ℕ → Option ℕ
number_of block kind = option_map number_le (found_in block kind)
