-- Blocks of typed attributes: a value is read according to its kind, which gives its canonical
-- form.
use Rattle.std.specs.Prelude.{ℕ, ◌≡◌, Bool, ◌&&◌, List, [], ◌∷◌, length, Option, Some, None, nat_le, if◌then◌else◌}
use Rattle.std.specs.Option.{option_map}
use Rattle.std.specs.List.{list_all}
use Rattle.netlink_attributes.specs.Attribute.{Attribute, value_max}
use Rattle.netlink_attributes.specs.Block.{canonical_block}
use Rattle.netlink_attributes.specs.Nla.{attribute_with, block_max}
use Rattle.netlink_attributes.specs.Reading.{attributes_in}

-- the canonical form of a value of a kind, or nothing if the value is not valid for the kind
abbrev pub KindReading : Type 0
KindReading = ℕ → List ℕ → Option (List ℕ)

-- the same in a block with these attributes
abbrev pub ValueReading : Type 0
ValueReading = List Attribute → KindReading

-- the canonical form of an attribute
abbrev pub normalized : KindReading → Attribute → Option Attribute
normalized reading a = option_map (attribute_with a.kind) (reading a.kind a.value)

abbrev pub with_first : Option Attribute → Option (List Attribute) → Option (List Attribute)
with_first None more = None
with_first (Some a) more = option_map (λ all. a ∷ all) more

-- the canonical form of all attributes, or nothing if one is not valid for its kind
unfoldable pub all_normalized : KindReading → List Attribute → Option (List Attribute)
all_normalized reading [] = Some []
all_normalized reading (a ∷ more) = with_first (normalized reading a) (all_normalized reading more)

abbrev pub normalize : ValueReading → Option (List Attribute) → Option (List Attribute)
normalize reading None = None
normalize reading (Some all) = all_normalized (reading all) all

-- the attributes of a block in canonical form, if every one is valid for its kind
abbrev pub normalized_in : ValueReading → List ℕ → Option (List Attribute)
normalized_in reading bytes = normalize reading (attributes_in bytes)

-- every value fits in an attribute, and all attributes together fit in a message
abbrev pub value_fits : Attribute → Bool
value_fits a = nat_le (length a.value) value_max

abbrev pub block_fits : List Attribute → Bool
block_fits all = list_all value_fits all && nat_le (length (canonical_block all)) block_max

abbrev pub keep_fit : Option (List Attribute) → Option (List Attribute)
keep_fit None = None
keep_fit (Some all) = if block_fits all then Some all else None

-- the same, if they fit in a message
abbrev pub block_reading : ValueReading → List ℕ → Option (List Attribute)
block_reading reading bytes = keep_fit (normalized_in reading bytes)

-- the canonical form of a value is the value
abbrev pub KeepsValues : ValueReading → Type 0
KeepsValues reading =
    (all : List Attribute) (kind : ℕ) (value text : List ℕ) → reading all kind value ≡ Some text → value ≡ text
