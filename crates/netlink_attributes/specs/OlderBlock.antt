-- How attributes were encoded, and what was canonical, while an attribute with both flag bits lost
-- the one for byte order.
use Rattle.std.specs.Prelude.{ℕ, ◌≡◌, ◌+◌, ◌-◌, ◌<◌, ◌^◌, List, [], ◌∷◌, ◌++◌, length, replicate, if◌then◌else◌, nat_le}
use Rattle.netlink_attributes.specs.Attribute.{Attribute, FitsAttribute, attribute_bytes, padded, padding}
use Rattle.netlink_attributes.specs.Nla.{attribute_with}

-- a kind has both flag bits if and only if it is at least 0xc000
abbrev pub both_flags : ℕ
both_flags = 2 ^ 15 + 2 ^ 14

-- the kind, without the bit for byte order if it has both flag bits
abbrev pub older_written_kind : ℕ → ℕ
older_written_kind kind = if nat_le both_flags kind then kind - 2 ^ 14 else kind

abbrev pub older_canonical_block : List Attribute → List ℕ
older_canonical_block [] = []
older_canonical_block (a ∷ more) =
    padded (attribute_with (older_written_kind a.kind) a.value) ++ older_canonical_block more

-- the bytes are these attributes, none with both flag bits, each with all of its padding, as zeros
abbrev pub IsOlderBlockOf : List ℕ → List Attribute → Type 0
IsOlderBlockOf bytes [] = bytes ≡ []
IsOlderBlockOf bytes (a ∷ more) =
    (rest : List ℕ) × FitsAttribute a × (a.kind < both_flags)
    × (bytes ≡ attribute_bytes a ++ (replicate (padding (length a.value)) 0 ++ rest))
    × IsOlderBlockOf rest more

abbrev pub IsOlderCanonicalBlock : List ℕ → Type 0
IsOlderCanonicalBlock bytes = (all : List Attribute) × IsOlderBlockOf bytes all
