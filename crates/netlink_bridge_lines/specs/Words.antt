-- Words that these lines share.
use Rattle.std.specs.Prelude.{ℕ, ◌==◌, ◌%◌, List, [], ◌∷◌, ◌++◌, length, nat_lt, slice_index, Option, Some, None, codes, decimal, if◌then◌else◌}
use Rattle.netlink_names.specs.Device.{device_text}
use Rattle.netlink_names.specs.declared.device.Known.{Known}
use Rattle.netlink_packet_core.specs.Fields.{number_at}
use Rattle.netlink_shapes.specs.Listing.{first_of, listed}
use Rattle.netlink_words.specs.Parts.{or_empty}

-- the verb of a message: the two lowest bits of a type tell what it does
unfoldable pub verb : ℕ → List ℕ
verb t =
    if t % 4 == 1 then codes "Deleted"
    else if t % 4 == 2 then codes "Get"
    else if t % 4 == 3 then codes "Set"
    else []

-- the verb, and a link by its index
unfoldable pub front : List Known → ℕ → ℕ → List (List ℕ)
front known t index = verb t ∷ device_text known index ∷ []

-- one number, or the first and the last of several
abbrev pub range_text : ℕ → ℕ → List ℕ
range_text first last =
    if first == last then decimal first else decimal first ++ (codes "-" ++ decimal last)

-- the value of the first attribute of a kind in a block, up to an error of the walk; empty if there is none
abbrev pub value_in : List ℕ → ℕ → List ℕ
value_in block kind = or_empty (first_of kind (listed block))

-- the first byte of a value; none if it is empty
unfoldable pub byte_of : Option (List ℕ) → Option ℕ
byte_of None = None
byte_of (Some value) = if nat_lt (length value) 1 then None else Some (slice_index value 0)

abbrev pub byte_in : List ℕ → ℕ → Option ℕ
byte_in block kind = byte_of (first_of kind (listed block))

-- the number in the first 4 bytes of a value; none if it has fewer
unfoldable pub number_of : Option (List ℕ) → Option ℕ
number_of None = None
number_of (Some value) = if nat_lt (length value) 4 then None else Some (number_at 0 4 value)

abbrev pub number_in : List ℕ → ℕ → Option ℕ
number_in block kind = number_of (first_of kind (listed block))
