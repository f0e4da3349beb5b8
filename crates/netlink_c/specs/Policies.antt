-- Attributes whose values have the shapes that a policy states.
use Rattle.std.specs.Prelude.{◌≡◌, ◌+◌, ◌-◌, ◌&&◌, ◌||◌, ℕ, Bool, true, false, List, [], ◌∷◌, length, nat_eq, nat_le, nat_lt, slice_index, if◌then◌else◌, Option, Some, None}
use Rattle.netlink_packet_core.specs.Attribute.{padding}
use Rattle.netlink_packet_core.specs.Causes.{cause_number}
use Rattle.netlink_packet_core.specs.DecodeError.{DecodeError}
use Rattle.netlink_packet_core.specs.Views.{masked}
use Rattle.netlink_c.specs.Fault.{numbers_of}
use Rattle.netlink_c.specs.Gets.{value_in}
use Rattle.netlink_c.specs.declared.fault.FaultNumbers.{FaultNumbers}
use Rattle.netlink_c.specs.declared.policy.PolicyRow.{PolicyRow}
use Rattle.netlink_c.specs.declared.walk.AttributeItem.{AttributeItem}

-- whether a zero is among the bytes
abbrev pub has_zero : List ℕ → Bool
has_zero [] = false
has_zero (b ∷ more) = nat_eq b 0 || has_zero more

-- the size of a string that is not empty, without a zero at its end
abbrev pub string_size : List ℕ → ℕ
string_size value =
    if nat_eq (slice_index value (length value - 1)) 0 then length value - 1 else length value

-- whether a value is a string of at most `most` bytes, or of any size if that is 0
abbrev pub is_string : ℕ → List ℕ → Bool
is_string most value =
    nat_lt 0 (length value) && (nat_eq most 0 || nat_le (string_size value) most)

-- whether a value has a shape, as the kernel's policies have them; a row's size states the size of
-- the first two, and the maximum of the third and of strings, where 0 is none
abbrev pub has_shape : ℕ → ℕ → List ℕ → Bool
has_shape shape stated value =
    if nat_eq shape 1 then nat_eq (length value) stated
    else if nat_eq shape 2 then nat_le stated (length value)
    else if nat_eq shape 3 then nat_eq stated 0 || nat_le (length value) stated
    else if nat_eq shape 4 then nat_eq (length value) 1
    else if nat_eq shape 5 then nat_eq (length value) 2
    else if nat_eq shape 6 then nat_eq (length value) 4
    else if nat_eq shape 7 then nat_eq (length value) 8
    else if nat_eq shape 8 then nat_eq (length value) 0
    else if nat_eq shape 9 then is_string stated value
    else if nat_eq shape 10 then is_string stated value && has_zero value
    else if nat_eq shape 11 then nat_eq (length value) 0 || nat_le 4 (length value)
    else true

-- whether the value of an attribute has the shape of a row, if it is of its kind
abbrev pub fits_row : PolicyRow → ℕ → List ℕ → Bool
fits_row row kind value =
    if nat_eq (masked kind) row.kind then has_shape row.shape row.size value else true

-- and that of each row
abbrev pub fits_rows : List PolicyRow → ℕ → List ℕ → Bool
fits_rows [] kind value = true
fits_rows (row ∷ more) kind value = fits_row row kind value && fits_rows more kind value

-- the first of a block's items that does not
abbrev pub first_bad : List PolicyRow → List ℕ → List AttributeItem → Option AttributeItem
first_bad rows block [] = None
first_bad rows block (item ∷ more) =
    if fits_rows rows item.kind (value_in block item) then first_bad rows block more else Some item

-- the offset past items and their padding, if the first starts at an offset
abbrev pub past : ℕ → List AttributeItem → ℕ
past at [] = at
past at (item ∷ more) = past (item.offset + item.size + padding item.size) more

-- what validating returns and writes: `WRONG_SHAPE` and the offset of the first attribute that does
-- not fit; without one, the error that ends the walk and its offset, or 0 and nothing
abbrev pub ValidatesAs : Option AttributeItem → List AttributeItem → Option DecodeError → ℕ → ℕ
    → FaultNumbers → FaultNumbers → ℕ → Type 0
ValidatesAs (Some bad) items end old new before after answer =
    (answer ≡ 36) × (new + 4 ≡ bad.offset) × (after ≡ before)
ValidatesAs None items None old new before after answer =
    (answer ≡ 0) × (new ≡ old) × (after ≡ before)
ValidatesAs None items (Some e) old new before after answer =
    (answer ≡ cause_number e) × (new ≡ past 0 items) × (after ≡ numbers_of e)
