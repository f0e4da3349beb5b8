-- A function that reads a block: the attributes of its walk, if the walk has no error.
use Rattle.std.specs.Prelude.{ℕ, zero, suc, ◌^◌, Bool, ◌&&◌, List, [], ◌∷◌, length, drop, Option, Some, None, nat_le, nat_lt, if◌then◌else◌}
use Rattle.std.specs.Option.{option_map}
use Rattle.netlink_attributes.specs.Attribute.{Attribute, padded_size}
use Rattle.netlink_attributes.specs.Views.{attribute_of, length_field, raw_kind}

-- whether the bytes start with a complete attribute whose kind and length fit their fields
abbrev pub starts_whole : List ℕ → Bool
starts_whole bytes =
    nat_le 4 (length bytes)
    && (nat_le 4 (length_field bytes)
    && (nat_le (length_field bytes) (length bytes)
    && (nat_lt (length_field bytes) (2 ^ 16) && nat_lt (raw_kind bytes) (2 ^ 16))))

-- the attributes of the bytes, of which there are at most `most`, or `None` if the bytes are not
-- only attributes
unfoldable pub attributes_within : ℕ → List ℕ → Option (List Attribute)
attributes_within zero [] = Some []
attributes_within zero (b ∷ more) = None
attributes_within (suc most) [] = Some []
attributes_within (suc most) (b ∷ more) =
    if starts_whole (b ∷ more)
    then option_map (λ all. attribute_of (b ∷ more) ∷ all)
    (attributes_within most (drop (padded_size (attribute_of (b ∷ more))) (b ∷ more)))
    else None

-- the attributes of the bytes, or `None` if the bytes are not only attributes
abbrev pub attributes_in : List ℕ → Option (List Attribute)
attributes_in bytes = attributes_within (length bytes) bytes
