-- The fields of an attribute's bytes, and the bytes that a view shows.
use Rattle.std.specs.Prelude.{ℕ, ◌+◌, ◌≤◌, ◌%◌, ◌^◌, Bool, nat_le, List, length, slice_range}
use denote.Ref.{Bor}
use Rattle.netlink_bytes.specs.Numbers.{number_le, bytes_le}
use Rattle.netlink_bytes.specs.Storage.{put_at}
use Rattle.netlink_attributes.specs.Attribute.{Attribute}
use Rattle.netlink_attributes.specs.declared.buffer.NlaBuffer.{NlaBuffer}

-- the length field: the size of the attribute, including its header
abbrev pub length_field : List ℕ → ℕ
length_field bytes = number_le (slice_range bytes 0 2)

-- the kind with its two flag bits
abbrev pub raw_kind : List ℕ → ℕ
raw_kind bytes = number_le (slice_range bytes 2 4)

-- the bytes with another length field, and with another kind field
abbrev pub with_length : List ℕ → ℕ → List ℕ
with_length bytes field = put_at bytes 0 (bytes_le field 2)

abbrev pub with_kind : List ℕ → ℕ → List ℕ
with_kind bytes field = put_at bytes 2 (bytes_le field 2)

-- the kind without its two flag bits
abbrev pub masked : ℕ → ℕ
masked kind = kind % 2 ^ 14

-- the kind with only one of its flag bits
abbrev pub nested : ℕ → ℕ
nested kind = masked kind + 2 ^ 15

abbrev pub network_byteorder : ℕ → ℕ
network_byteorder kind = masked kind + 2 ^ 14

-- the highest bit: the value holds attributes
abbrev pub is_nested : ℕ → Bool
is_nested kind = nat_le (2 ^ 15) kind

-- the next bit: the value is in network byte order
abbrev pub is_network_byteorder : ℕ → Bool
is_network_byteorder kind = nat_le (2 ^ 14) (kind % 2 ^ 15)

-- the attribute that the bytes begin with, if they hold a complete one
abbrev pub attribute_of : List ℕ → Attribute
attribute_of bytes =
    record { kind = raw_kind bytes; value = slice_range bytes 4 (length_field bytes) }

-- the bytes hold a complete attribute, but perhaps not its padding
pub record HoldsAttribute (bytes : List ℕ) : Type 0 where
  pub header : 4 ≤ length bytes
  pub least : 4 ≤ length_field bytes
  pub most : length_field bytes ≤ length bytes

-- the storage of a view
abbrev pub storage_of : {T : Type 0} → NlaBuffer T → T
storage_of view = view.buffer

-- the view over a storage
abbrev pub view_over : {T : Type 0} → T → NlaBuffer T
view_over storage = record { buffer = storage }

-- the bytes that a view over a slice shows
abbrev pub shown : NlaBuffer (Bor (List ℕ)) → List ℕ
shown view = view.buffer.now
