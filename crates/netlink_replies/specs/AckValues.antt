-- The attributes of an extended acknowledgement (enum nlmsgerr_attrs of linux/netlink.h).
use Rattle.std.specs.Prelude.{ℕ, ◌-◌, ◌≡◌, ◌↔◌, nat_eq, IfSome, IsSome, IsUtf8, if◌then◌else◌, List, [], ◌∷◌, length, take, Option, Some, None, slice_index_or, slice_range}
use denote.Ref.{Bor}
use Rattle.netlink_packet_core.specs.Attribute.{Attribute}
use Rattle.netlink_packet_core.specs.DecodeError.{DecodeError}
use Rattle.netlink_packet_core.specs.Header.{field}
use Rattle.netlink_packet_core.specs.Views.{masked}
use Rattle.netlink_packet_core.specs.Walk.{Walk}

-- the value of the first attribute of a kind, comparing kinds without their two flag bits
abbrev pub first_value : ℕ → List Attribute → Option (List ℕ)
first_value kind [] = None
first_value kind (a ∷ more) =
    if nat_eq (masked a.kind) kind then Some a.value else first_value kind more

-- this fact holds of the value of the first attribute of a kind in the walk of the bytes, counting
-- the attributes before an error
abbrev pub FirstValue : ℕ → List ℕ → (Option (List ℕ) → Type 0) → Type 0
FirstValue kind bytes Holds =
    (all : List Attribute) (fault : Option DecodeError) → Walk bytes all fault
    → Holds (first_value kind all)

-- the bytes from a start up to an end
abbrev pub bytes_at : List ℕ → ℕ × ℕ → List ℕ
bytes_at bytes place = slice_range bytes place.0 place.1

-- the bytes without one zero byte at the end, if there is one
abbrev pub without_nul : List ℕ → List ℕ
without_nul bytes =
    if nat_eq (slice_index_or bytes (length bytes - 1) 1) 0 then take (length bytes - 1) bytes else bytes

-- the integer in a value of exactly 4 bytes
abbrev pub number_of_value : List ℕ → Option ℕ
number_of_value value = if nat_eq (length value) 4 then Some (field 0 4 value) else None

-- a result is the bytes as text, if there are bytes and they are UTF-8, and none otherwise
abbrev pub ShowsText : Option (List ℕ) → Option (Bor (List ℕ)) → Type 0
ShowsText None text = text ≡ None
ShowsText (Some bytes) text = IfSome text (λ t. t.now ≡ bytes) × (IsSome text ↔ IsUtf8 bytes)
