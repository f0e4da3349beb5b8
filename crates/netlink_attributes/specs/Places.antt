-- Where the attributes of a walk are, and what is written there.
use Rattle.std.specs.Prelude.{ℕ, zero, suc, ◌+◌, ◌≡◌, List, [], ◌∷◌, length, Option, Some, None, IsSomeAnd, nat_le, if◌then◌else◌, slice_get, slice_range}
use Rattle.std.specs.Option.{option_map}
use Rattle.netlink_bytes.specs.Storage.{put_at}
use Rattle.netlink_bytes.specs.declared.error.DecodeError.{DecodeError}
use Rattle.netlink_attributes.specs.Attribute.{Attribute, padded_size}
use Rattle.netlink_attributes.specs.Walk.{Walk}

-- where each attribute starts and where its value ends, if the first starts at an offset
abbrev pub ends_from : ℕ → List Attribute → List (ℕ × ℕ)
ends_from at [] = []
ends_from at (a ∷ more) = (at, at + (4 + length a.value)) ∷ ends_from (at + padded_size a) more

abbrev pub ends_of : List Attribute → List (ℕ × ℕ)
ends_of all = ends_from 0 all

-- the range of a value, from the range of its attribute
abbrev pub value_part : ℕ × ℕ → ℕ × ℕ
value_part place = (place.0 + 4, place.1)

-- where the value of the attribute with this index starts and ends, if there is such an attribute
abbrev pub value_place : List Attribute → ℕ → Option (ℕ × ℕ)
value_place all index = option_map value_part (slice_get (ends_of all) index)

-- that range, in the walk of these bytes
abbrev pub IsPlace : List ℕ → ℕ → Option (ℕ × ℕ) → Type 0
IsPlace bytes index place =
    (all : List Attribute) (fault : Option DecodeError) → Walk bytes all fault
    → place ≡ value_place all index

-- that range as two numbers: from `start` up to `end`, or none if `start` is after `end`
abbrev pub IsRange : List ℕ → ℕ → ℕ → ℕ → Type 0
IsRange bytes index start end =
    IsPlace bytes index (if nat_le start end then Some (start, end) else None)

-- there is an attribute with this index, and its value has this size
abbrev pub HasValueOf : List Attribute → ℕ → ℕ → Type 0
HasValueOf all index size = IsSomeAnd (value_place all index) (λ place. place.1 ≡ place.0 + size)

-- these are the bytes of the value of the attribute with this index
abbrev pub IsValue : List ℕ → ℕ → List ℕ → Type 0
IsValue bytes index value =
    (all : List Attribute) (fault : Option DecodeError) → Walk bytes all fault
    → IsSomeAnd (value_place all index) (λ place. value ≡ slice_range bytes place.0 place.1)

-- `new` is the bytes with this value written over that of the attribute with this index
abbrev pub IsWritten : List ℕ → ℕ → List ℕ → List ℕ → Type 0
IsWritten bytes index value new =
    (all : List Attribute) (fault : Option DecodeError) → Walk bytes all fault
    → IsSomeAnd (value_place all index) (λ place. new ≡ put_at bytes place.0 value)

-- the attributes with this value instead of that of the one with this index
abbrev pub replaced : List Attribute → ℕ → List ℕ → List Attribute
replaced [] index value = []
replaced (a ∷ more) zero value = record { kind = a.kind; value = value } ∷ more
replaced (a ∷ more) (suc index) value = a ∷ replaced more index value
