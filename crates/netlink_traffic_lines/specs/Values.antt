-- Values in a block of attributes.
use Rattle.std.specs.Prelude.{ℕ, ◌==◌, not, Bool, false, List, [], ◌++◌, length, nat_lt, Option, Some, None, codes, decimal, if◌then◌else◌}
use Rattle.netlink_packet_core.specs.Fields.{number_at}
use Rattle.netlink_shapes.specs.Listing.{first_of, listed}
use Rattle.netlink_words.specs.Parts.{number_part}

-- the first attribute of a kind in a block, up to an error of the walk
abbrev pub value_in : List ℕ → ℕ → Option (List ℕ)
value_in block kind = first_of kind (listed block)

-- the number in the first four bytes of a value; none if it is shorter
unfoldable pub number_of : Option (List ℕ) → Option ℕ
number_of None = None
number_of (Some value) = if nat_lt (length value) 4 then None else Some (number_at 0 4 value)

abbrev pub number_in : List ℕ → ℕ → Option ℕ
number_in block kind = number_of (value_in block kind)

-- a number other than 0 is there
unfoldable pub is_set : Option ℕ → Bool
is_set None = false
is_set (Some n) = not (n == 0)

-- a key and a number, unless the number is 0
unfoldable pub counted : List ℕ → ℕ → List ℕ
counted key n = if n == 0 then [] else number_part key (Some n)

-- a key and a number with its unit, if there is one
unfoldable pub unit_part : List ℕ → List ℕ → Option ℕ → List ℕ
unit_part key unit None = []
unit_part key unit (Some n) = key ++ (codes " " ++ (decimal n ++ unit))
