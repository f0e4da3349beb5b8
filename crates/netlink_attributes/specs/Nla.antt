-- The attributes that values represent.
use Rattle.std.specs.Prelude.{ℕ, ◌≤◌, List, length, map, All}
use Rattle.netlink_attributes.specs.Attribute.{Attribute, value_max}
use Rattle.netlink_attributes.specs.Block.{canonical_block}
use Rattle.netlink_attributes.specs.declared.default.DefaultNla.{DefaultNla}

-- the attribute with this kind and value
abbrev pub attribute_with : ℕ → List ℕ → Attribute
attribute_with kind value = record { kind = kind; value = value }

-- the attributes that values represent, by the functions that give the kind and the value of each
abbrev pub attributes_of : {T : Type 0} → (T → ℕ) → (T → List ℕ) → List T → List Attribute
attributes_of kind_of value_of nlas = map (λ nla. attribute_with (kind_of nla) (value_of nla)) nlas

-- the block that encodes values
abbrev pub written_block : {T : Type 0} → (T → ℕ) → (T → List ℕ) → List T → List ℕ
written_block kind_of value_of nlas = canonical_block (attributes_of kind_of value_of nlas)

-- each value has a size that a length field can count
abbrev pub AllFit : {T : Type 0} → (T → List ℕ) → List T → Type 0
AllFit value_of nlas = All (λ nla. length (value_of nla) ≤ value_max) nlas

-- the maximum size in bytes of a block that leaves room for the headers of a message: 4095 less
-- than the largest 32-bit length
abbrev pub block_max : ℕ
block_max = 4294963200

-- each value has such a size, and the block leaves room for the headers of a message
abbrev pub FitBlock : {T : Type 0} → (T → ℕ) → (T → List ℕ) → List T → Type 0
FitBlock kind_of value_of nlas =
    AllFit value_of nlas
    × (length (written_block kind_of value_of nlas) ≤ block_max)

-- the attribute that a `DefaultNla` holds
abbrev pub kept_attribute : DefaultNla → Attribute
kept_attribute nla = attribute_with nla.kind nla.value.items
