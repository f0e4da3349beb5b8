-- Values of items, read with a check of their size.
use Rattle.std.specs.Prelude.{◌≡◌, ◌≢◌, ◌+◌, ◌<◌, ◌≤◌, ◌&&◌, ℕ, Bool, List, length, nat_eq, nat_le, nat_lt, slice_index, if◌then◌else◌}
use Rattle.netlink_c.specs.Parts.{part_from}
use Rattle.netlink_c.specs.declared.frame.Part.{Part}
use Rattle.netlink_c.specs.declared.walk.AttributeItem.{AttributeItem}

-- whether an item is an attribute of this many bytes: it is not absent, which offset 0 means, and
-- its value ends within them
abbrev pub is_inside : ℕ → AttributeItem → Bool
is_inside room item = nat_lt 0 item.offset && nat_le (item.offset + item.size) room

-- what reading a value of exactly `size` bytes returns: 0, `NO_PLACE` or `WRONG_SIZE`
abbrev pub get_result : ℕ → ℕ → AttributeItem → ℕ
get_result size room item = if is_inside room item then (if nat_eq item.size size then 0 else 35) else 34

-- the bytes of an item's value
abbrev pub value_in : List ℕ → AttributeItem → List ℕ
value_in bytes item = part_from item.offset item.size bytes

-- what reading a value of exactly `size` bytes does: if it returns 0, it writes what the value
-- means, and otherwise it changes nothing
pub record Gets {X : Type 0} (size : ℕ) (means : List ℕ → X) (bytes : List ℕ) (item : AttributeItem)
    (old new : X) (answer : ℕ) : Type 0 where
  pub answers : answer ≡ get_result size (length bytes) item
  pub written : answer ≡ 0 → new ≡ means (value_in bytes item)
  pub unchanged : answer ≢ 0 → new ≡ old

-- what a value of one byte means, and what bytes mean by themselves
abbrev pub byte_of : List ℕ → ℕ
byte_of value = slice_index value 0

abbrev pub bytes_of : List ℕ → List ℕ
bytes_of value = value

-- `size` is the number of bytes before the first zero byte, or of all bytes if there is none
pub record IsTextSize (bytes : List ℕ) (size : ℕ) : Type 0 where
  pub within : size ≤ length bytes
  pub before : (k : ℕ) → k < size → slice_index bytes k ≢ 0
  pub stops : size < length bytes → slice_index bytes size ≡ 0

-- what reading a C string does
pub record GetsText (bytes : List ℕ) (item : AttributeItem) (old new : Part) (answer : ℕ) : Type 0 where
  pub answers : answer ≡ (if is_inside (length bytes) item then 0 else 34)
  pub starts : answer ≡ 0 → new.offset ≡ item.offset
  pub ends : answer ≡ 0 → IsTextSize (value_in bytes item) new.size
  pub unchanged : answer ≢ 0 → new ≡ old
