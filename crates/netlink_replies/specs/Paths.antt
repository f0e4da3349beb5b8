-- The attributes that contain an offset.
use Rattle.std.specs.Prelude.{ℕ, ◌+◌, ◌-◌, ◌≡◌, nat_lt, if◌then◌else◌, List, [], ◌∷◌, length, drop, Option, Some, None, option_and_then}
use Rattle.netlink_packet_core.specs.Attribute.{Attribute, padded_size}
use Rattle.netlink_packet_core.specs.Reading.{attributes_in}
use Rattle.netlink_packet_core.specs.Views.{masked}

-- the attribute that contains an offset, not in its padding, and the offset from its start
abbrev pub containing : ℕ → List Attribute → Option (Attribute × ℕ)
containing offset [] = None
containing offset (a ∷ more) =
    if nat_lt offset (4 + length a.value) then Some (a, offset)
    else if nat_lt offset (padded_size a) then None
    else containing (offset - padded_size a) more

-- the same for bytes that are only attributes
abbrev pub attribute_at : List ℕ → ℕ → Option (Attribute × ℕ)
attribute_at bytes offset = option_and_then (containing offset) (attributes_in bytes)

-- where the path goes on: at the offset in the value, or nowhere if the offset is in the header
abbrev pub bytes_inside : Attribute × ℕ → List ℕ
bytes_inside found = if nat_lt found.1 4 then [] else found.0.value

abbrev pub offset_inside : Attribute × ℕ → ℕ
offset_inside found = found.1 - 4

-- These are the kinds, without their two flag bits, of the attributes that contain an offset: that
-- of the outermost, then that of the one in its value, as far as a value is only attributes.
abbrev pub IsPath : List ℕ → ℕ → List ℕ → Type 0
IsPath bytes offset [] = attribute_at bytes offset ≡ None
IsPath bytes offset (kind ∷ more) =
    (found : Attribute × ℕ) × (attribute_at bytes offset ≡ Some found)
    × (kind ≡ masked found.0.kind) × IsPath (bytes_inside found) (offset_inside found) more

-- the attributes of a request with a fixed header of this size, and an offset in the request as an
-- offset in them; no attributes if the offset is before them
abbrev pub place_in : Option ℕ → List ℕ → ℕ → List ℕ × ℕ
place_in None request size = ([], 0)
place_in (Some offset) request size =
    if nat_lt offset (16 + size) then ([], 0) else (drop (16 + size) request, offset - (16 + size))
