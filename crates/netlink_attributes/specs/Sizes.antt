-- Laws about the sizes of encodings, for callers to cite.
use Rattle.std.specs.Prelude.{◌≡◌, ℕ, ◌+◌, List, ◌∷◌, length, replicate}
use Rattle.std.proofs.Common.{ap, ◌∙◌, arith, length-append}
use Rattle.std.proofs.lemmas.List.{length-replicate}
use Rattle.netlink_bytes.specs.Numbers.{bytes_le}
use Rattle.netlink_attributes.specs.Attribute.{Attribute, attribute_bytes, padded, padded_size, padding}
use Rattle.netlink_attributes.specs.Block.{canonical_block}
use Rattle.netlink_attributes.specs.Nla.{attribute_with}

pub length-attribute_bytes : (a : Attribute) → length (attribute_bytes a) ≡ 4 + length a.value
unfolding bytes_le
length-attribute_bytes a = omega arith

-- an attribute as it is written has its padded size
pub length-padded : (a : Attribute) → length (padded a) ≡ padded_size a
length-padded a =
    length-append (attribute_bytes a) (replicate (padding (length a.value)) 0)
    ∙ (let text = length-attribute_bytes a in
    let zeros = length-replicate {A = ℕ} (padding (length a.value)) 0 in omega arith)

-- the same, by kind and value
pub length-written : (kind : ℕ) (value : List ℕ)
    → length (padded (attribute_with kind value)) ≡ 4 + length value + padding (length value)
length-written kind value = length-padded (attribute_with kind value)

-- the size of a block is the padded size of its first attribute plus the size of what follows
pub length-canonical_block : (a : Attribute) (more : List Attribute)
    → length (canonical_block (a ∷ more)) ≡ padded_size a + length (canonical_block more)
length-canonical_block a more =
    length-append (padded a) (canonical_block more)
    ∙ ap (λ (n : ℕ). n + length (canonical_block more)) (length-padded a)

-- what a proof about a size needs
pub ruleset written_sizes = (length-written)
