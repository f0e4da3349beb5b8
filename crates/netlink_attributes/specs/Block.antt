-- Blocks of attributes: the one that encodes a list, and a separate grammar for what is canonical.
use Rattle.std.specs.Prelude.{ℕ, ◌≡◌, List, [], ◌∷◌, ◌++◌, length, replicate}
use Rattle.netlink_attributes.specs.Attribute.{Attribute, FitsAttribute, attribute_bytes, padded, padding}

-- the attributes as they are written, one after another, each with its kind unchanged
abbrev pub canonical_block : List Attribute → List ℕ
canonical_block [] = []
canonical_block (a ∷ more) = padded a ++ canonical_block more

-- the bytes are these attributes, each with all of its padding, as zeros
abbrev pub IsBlockOf : List ℕ → List Attribute → Type 0
IsBlockOf bytes [] = bytes ≡ []
IsBlockOf bytes (a ∷ more) =
    (rest : List ℕ) × FitsAttribute a
    × (bytes ≡ attribute_bytes a ++ (replicate (padding (length a.value)) 0 ++ rest))
    × IsBlockOf rest more

-- the bytes are a canonical block
abbrev pub IsCanonicalBlock : List ℕ → Type 0
IsCanonicalBlock bytes = (all : List Attribute) × IsBlockOf bytes all

-- the bytes, with zeros up to a multiple of 4
abbrev pub filled : List ℕ → List ℕ
filled bytes = bytes ++ replicate (padding (length bytes)) 0
