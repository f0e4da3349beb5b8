-- What is left of a walk if the bytes are truncated.
use Rattle.std.specs.Prelude.{ℕ, ◌+◌, ◌-◌, ◌≡◌, ◌≢◌, ◌<◌, ◌⊎◌, List, [], ◌∷◌, length, drop, Option, Some, None, if◌then◌else◌, nat_le, nat_lt, slice_get}
use Rattle.netlink_bytes.specs.declared.error.DecodeError.{DecodeError}
use Rattle.netlink_bytes.specs.declared.error.DecodeError.TheVariants.{NlaBufferTooSmall, NlaLengthMismatch, NlaInvalidLength}
use Rattle.netlink_attributes.specs.Attribute.{Attribute, padded_size}
use Rattle.netlink_attributes.specs.Places.{ends_of}
use Rattle.netlink_attributes.specs.Views.{length_field}

-- the attributes that end at or before the cut, if the first starts at an offset
abbrev pub kept_from : ℕ → ℕ → List Attribute → List Attribute
kept_from at cut [] = []
kept_from at cut (a ∷ more) =
    if nat_le (at + (4 + length a.value)) cut then a
    ∷ kept_from (at + padded_size a) cut more else kept_from (at + padded_size a) cut more

abbrev pub kept_by : ℕ → List Attribute → List Attribute
kept_by cut all = kept_from 0 cut all

-- where an error after the attributes starts, if the first starts at an offset
abbrev pub fault_start_from : ℕ → List Attribute → ℕ
fault_start_from at [] = at
fault_start_from at (a ∷ more) = fault_start_from (at + padded_size a) more

abbrev pub fault_start : List Attribute → ℕ
fault_start all = fault_start_from 0 all

-- the cut falls inside the attribute that starts at `start`, or past the start of the error, which
-- is at `start`
abbrev pub IsCutAt : List Attribute → Option DecodeError → ℕ → ℕ → Type 0
IsCutAt all fault cut start =
    ((index : ℕ) × (end : ℕ) × (slice_get (ends_of all) index ≡ Some (start, end)) × (start < cut)
    × (cut < end))
    ⊎ ((fault ≢ None) × (start ≡ fault_start all) × (start < cut))

-- the error in the first `size` bytes, if no attribute ends in them
abbrev pub fault_of : List ℕ → ℕ → DecodeError
fault_of bytes size =
    if nat_lt size 4 then NlaBufferTooSmall size 4
    else if nat_lt (length_field bytes) 4 then NlaInvalidLength 4 (length_field bytes)
    else NlaLengthMismatch size (length_field bytes)

-- the error in the bytes from `start` up to the cut
abbrev pub cut_fault : List ℕ → ℕ → ℕ → DecodeError
cut_fault bytes start cut = fault_of (drop start bytes) (cut - start)
