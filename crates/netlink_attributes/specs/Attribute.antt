-- One attribute and its encoding (linux/netlink.h, struct nlattr).
use Rattle.std.specs.Prelude.{ℕ, ◌+◌, ◌-◌, ◌%◌, ◌<◌, ◌≤◌, ◌^◌, List, ◌++◌, length, replicate}
use Rattle.netlink_bytes.specs.Numbers.{bytes_le}
use Rattle.netlink_attributes.specs.declared.constants.TheConstants.{NLA_VALUE_MAX}

-- a 16-bit kind, with its two flag bits, and a value
pub record Attribute : Type 0 where
  pub kind : ℕ
  pub value : List ℕ

-- the maximum size of a value in bytes: the 16-bit length field also counts the header
abbrev pub value_max : ℕ
value_max = NLA_VALUE_MAX

-- the kind and the size of the value fit their fields
pub record FitsAttribute (a : Attribute) : Type 0 where
  pub kind : a.kind < 2 ^ 16
  pub value : length a.value ≤ value_max

-- how many bytes a size needs to reach a multiple of 4
abbrev pub padding : ℕ → ℕ
padding size = (4 - size % 4) % 4

-- the encoding without padding: the length of header and value, the kind, and the value
abbrev pub attribute_bytes : Attribute → List ℕ
attribute_bytes a = bytes_le (4 + length a.value) 2 ++ (bytes_le a.kind 2 ++ a.value)

-- the attribute as it is written: its encoding, padded with zeros
abbrev pub padded : Attribute → List ℕ
padded a = attribute_bytes a ++ replicate (padding (length a.value)) 0

-- and the size of that in bytes
abbrev pub padded_size : Attribute → ℕ
padded_size a = 4 + length a.value + padding (length a.value)
